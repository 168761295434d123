-- The loop keeps that each key so far is above the one before it, that each record but the last of them has a string and a language that no
-- refusal meets, and that `last` and `text` are the key, and the length and offset, of the last of them.
use Prim.Native.Nat.{◌<◌, ◌-◌}
use mathlib.Core.Path.{◌≡◌}
use Rattle.bigendian.specs.Numbers.{number}
use Rattle.name_layout.specs.Layout.{text_at}
use Rattle.name_layout.specs.Keys.{key_of, packed}
use Rattle.name.proofs.Acceptances.{Rise, FitAndSpeak}
use Rattle.name.proofs.surely_sound.Given as goal

abbrev pub invariant-loop-i : goal.invariant-loop-i
invariant-loop-i l = Rise l.framed.table.bytes.now l.i × FitAndSpeak l.framed.table.bytes.now (l.i - 1)
    × (0 < l.i → (l.last ≡ packed (key_of l.framed.table.bytes.now (l.i - 1))) × (l.text ≡ number 4 l.framed.table.bytes.now (text_at (l.i - 1))))

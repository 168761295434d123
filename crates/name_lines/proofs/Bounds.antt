-- The PostScript name of an accepted table lies within it and has at most 63 bytes, since its record's string does and is well formed.
-- Assumes nothing.
use Prim.Native.Nat.{ℕ, ◌+◌, ◌≤◌}
use mathlib.Core.Path.{◌≡◌}
use mathlib.Core.Option.{none}
use mathlib.Core.List.{List}
use native.Mathlib.Omega.{arith}
use lib.ListN.{length, length-take, length-drop}
use Rattle.outcomes.specs.Outcomes.{answered}
use Rattle.bigendian.specs.Numbers.{Bytes}
use Rattle.name_layout.specs.Layout.{bytes_of}
use Rattle.name.specs.Acceptance.{faults}
use Rattle.name.proofs.Acceptances.{string_inside}
use Rattle.name_search.specs.declared.Text.{Text}
use Rattle.name_answers.specs.Names.{postscript_of}
use Rattle.name_answers.proofs.NameLaws.{postscript_right}

pub name_within : (t : List ℕ) → faults t ≡ none → Bytes t → (x : Text) → postscript_of t ≡ answered x → (x.start + x.len ≤ length t) × (x.len ≤ 63)
unfolding bytes_of
name_within t a b x h =
    let w = (postscript_right.named t b x).0 h in
    let inside = string_inside t a w.i w.first.inside in
    let s = w.holds.2 in
    let most = simp (length-take, length-drop) at w.holds.0.0.most in
    (omega (arith, s.start, s.len), omega (arith, s.start, s.len, most))

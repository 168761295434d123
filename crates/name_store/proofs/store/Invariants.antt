-- The strings and the records of the entries before are in the room.
use mathlib.Core.Path.{◌≡◌}
use Rattle.name_store.specs.Entries.{offset_for}
use Rattle.name_store.proofs.Stores.{bytes_to}
use Rattle.name_store.proofs.store.Given as goal

abbrev pub invariant-loop-i : goal.invariant-loop-i
invariant-loop-i l = (l.room ≡ bytes_to l.pool l.entries l.fn.room l.i) × (l.offset ≡ offset_for l.entries l.i)

-- The invariant: the fields below k are read. A version that lacks a field lacks the later ones, so the loop may stop there.
use lib.ListN.{length}
use Rattle.os2_fields.specs.Fields.{value_in}
use Prim.Native.Nat.{ℕ, ◌<◌}
use mathlib.Core.Path.{◌≡◌}
use Rattle.os2_fields.specs.Catalogue.{field_count, field_of}
use Rattle.os2_store.specs.Writing.{number_for}
use Rattle.os2_writer.proofs.read.Given as goal

abbrev pub invariant-loop-k : goal.invariant-loop-k
invariant-loop-k l = (length l.numbers ≡ field_count) × ((j : ℕ) → j < l.k → number_for l.numbers j ≡ value_in l.table (field_of j))

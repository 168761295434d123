-- The loop keeps the table's length.
use Rattle.std.proofs.Common.{length, ◌≡◌}
use Rattle.table_rows.proofs.os2_rows.table.Given as goal

abbrev pub invariant-loop-word : goal.invariant-loop-word
invariant-loop-word l = length l.t ≡ 100

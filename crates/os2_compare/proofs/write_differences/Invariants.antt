-- The invariant: the rows of the fields below k stand at the front of the room.
use Rattle.std.proofs.Common.{◌≡◌, length}
use Rattle.level.specs.Levels.{number_of}
use Rattle.comparing.specs.Lists.{list_below}
use Rattle.comparing.specs.Rooms.{rows_of, front}
use Rattle.os2_compare.specs.Differences.{difference_at, row_of}
use Rattle.os2_compare.proofs.write_differences.Given as goal

abbrev pub invariant-loop-k : goal.invariant-loop-k
invariant-loop-k l = (l.done ≡ length (list_below (difference_at (number_of l.known) l.left l.right) l.k)) × (length l.rows ≡ length l.initial.rows)
    × (l.rows ≡ front (rows_of row_of (list_below (difference_at (number_of l.known) l.left l.right) l.k)) l.initial.rows)

-- The invariant: the count is that of the fields below the next.
use Rattle.std.proofs.Common.{◌≤◌, ◌≡◌, length}
use Rattle.level.specs.Levels.{number_of}
use Rattle.comparing.specs.Lists.{list_below}
use Rattle.os2_compare.specs.Differences.{difference_at}
use Rattle.os2_compare.proofs.count_differences.Given as goal

abbrev pub invariant-loop-f : goal.invariant-loop-f
invariant-loop-f l = (l.count ≤ l.f-index) × (l.count ≡ length (list_below (difference_at (number_of l.known) l.left l.right) l.f-index))

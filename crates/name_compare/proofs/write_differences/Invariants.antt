-- The invariant: the pass has listed what differs of the keys that it has passed, and the rows of that stand at the front of the room. While there are fewer
-- rows than differences, not all records are passed.
use Prim.Native.Nat.{◌+◌, ◌-◌, ◌≤◌}
use mathlib.Core.Path.{◌≡◌}
use mathlib.Core.List.{List}
use lib.ListN.{length}
use Rattle.name_layout.specs.Layout as layout
use Rattle.comparing.specs.Rooms.{rows_of, front}
use Rattle.name_compare.specs.Differences.{Difference, row_of}
use Rattle.name_compare.specs.Steps.{Reached}
use Rattle.name_compare.proofs.write_differences.Given as goal

abbrev pub invariant-loop-done : goal.invariant-loop-done
invariant-loop-done l = (l.i ≤ layout.count l.pair.left.bytes.now) × (l.j ≤ layout.count l.pair.right.bytes.now) × (length l.rows ≡ length l.initial.rows)
    × ((out : List Difference) × Reached l.pair.left.bytes.now l.pair.right.bytes.now l.i l.j out × (l.done ≡ length out) × (l.rows ≡ front (rows_of row_of out) l.initial.rows))

abbrev pub decreases-loop-done : goal.decreases-loop-done
decreases-loop-done l = layout.count l.pair.left.bytes.now + layout.count l.pair.right.bytes.now - (l.i + l.j)

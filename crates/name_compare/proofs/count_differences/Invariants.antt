-- The invariant: the pass has listed what differs of the keys that it has passed, and counted it.
use Prim.Native.Nat.{◌+◌, ◌-◌, ◌≤◌}
use mathlib.Core.Path.{◌≡◌}
use mathlib.Core.List.{List}
use lib.ListN.{length}
use Rattle.name_layout.specs.Layout as layout
use Rattle.name_compare.specs.Differences.{Difference}
use Rattle.name_compare.specs.Steps.{Reached}
use Rattle.name_compare.proofs.count_differences.Given as goal

abbrev pub invariant-loop-i : goal.invariant-loop-i
invariant-loop-i l = (l.i ≤ layout.count l.pair.left.bytes.now) × (l.j ≤ layout.count l.pair.right.bytes.now) × (l.count ≤ l.i + l.j)
    × ((out : List Difference) × Reached l.pair.left.bytes.now l.pair.right.bytes.now l.i l.j out × (l.count ≡ length out))

abbrev pub decreases-loop-i : goal.decreases-loop-i
decreases-loop-i l = l.m + l.n - (l.i + l.j)

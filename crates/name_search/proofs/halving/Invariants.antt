-- Halving keeps that the key stands nowhere below `low` and nowhere from `high` on; a scan of rising keys then finds the same. It keeps, too, that the looks so far and
-- those to come are all of them.
use Prim.Native.Nat.{◌-◌}
use lib.Dec.{ltb, eqb}
use Rattle.name_layout.specs.Layout.{count}
use Rattle.name_search.specs.Seeking.{sought_by, doubled}
use Rattle.name_search.proofs.Halvings.{Between}
use Rattle.name_search.proofs.Turns.{Counted}
use Rattle.name_search.proofs.halving.Given as goal

abbrev pub invariant-loop-low : goal.invariant-loop-low
invariant-loop-low l = Between (doubled l.table) (sought_by l.number l.exact) (count l.table) l.low l.high
    × Counted (λ i. eqb (doubled l.table i) (sought_by l.number l.exact)) (λ i. ltb (doubled l.table i) (sought_by l.number l.exact)) (count l.table) l.looked l.low l.high

abbrev pub decreases-loop-low : goal.decreases-loop-low
decreases-loop-low l = l.high - l.low

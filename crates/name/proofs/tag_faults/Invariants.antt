-- The loop keeps that no tag so far has a fault; where one has, it is the first.
use Rattle.outcomes.proofs.Laws.{SoFar}
use Rattle.name.specs.Acceptance.{tag_fault}
use Rattle.name.proofs.tag_faults.Given as goal

abbrev pub invariant-loop-i : goal.invariant-loop-i
invariant-loop-i l = SoFar (tag_fault l.framed.table.bytes.now) l.i-end l.i

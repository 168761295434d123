-- The loop keeps that no record so far has a fault; where one has, it is the first.
use Rattle.outcomes.proofs.Laws.{SoFar}
use Rattle.name.specs.Acceptance.{record_fault}
use Rattle.name.proofs.exact_faults.Given as goal

abbrev pub invariant-loop-i : goal.invariant-loop-i
invariant-loop-i l = SoFar (record_fault l.framed.table.bytes.now) l.i-end l.i

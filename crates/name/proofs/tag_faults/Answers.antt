use Rattle.std.proofs.Common.{sym, ◌∙◌}
use Rattle.outcomes.proofs.Calls.{error_passed}
use Rattle.outcomes.proofs.Laws.{at_first, goes_on, stops, at_last}
use Rattle.name.specs.Refusals.{said_refusal}
use Rattle.name.proofs.tag_faults.Goals as goal

pub loop-i-init : goal.loop-i-init
loop-i-init c = at_first _ _

pub returns-in_err-tag_fault : goal.returns-in_err-tag_fault
returns-in_err-tag_fault c =
    error_passed said_refusal _ c.from_residual.ensures.1
    ∙ rw (← c.tag_count-i-end.ensures) (sym (stops _ c.loop-i.invariant c.loop-i-test.true (sym c.in_err-tag_fault.ensures)))

pub loop-i-preserved : goal.loop-i-preserved
loop-i-preserved c = goes_on _ c.loop-i.invariant c.loop-i-test.true (sym c.in_ok-tag_fault.ensures)

pub returns : goal.returns
returns c = rw (← c.tag_count-i-end.ensures) (sym (at_last _ c.loop-i.invariant c.loop-i-test.false))

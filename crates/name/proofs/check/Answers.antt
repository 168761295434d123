-- The layout's fault, else the records', else the tags': past the first test no fault of the layout is left, past the second none of the records.
use Rattle.std.proofs.Common.{sym, ◌∙◌, ap}
use Rattle.outcomes.specs.Firsts.{◌then◌}
use Rattle.outcomes.specs.Outcomes.{accepted, unless}
use Rattle.outcomes.proofs.Calls.{error_passed}
use Rattle.name.specs.Refusals.{said_refusal}
use Rattle.name.specs.Acceptance.{faults}
use Rattle.name.proofs.Acceptances.{layout_none, framed}
use Rattle.name.proofs.check.Goals as goal

pub returns-in_err-layout_fault : goal.returns-in_err-layout_fault
unfolding faults ◌then◌
returns-in_err-layout_fault c = ap (λ o. unless o accepted) (error_passed said_refusal _ c.from_residual.ensures.1 ∙ rw (sym c.in_err-layout_fault.ensures))

-- past the layout's faults its records and tags lie within the table
pub invariant_of-framed-clause-header : goal.invariant_of-framed-clause-header
invariant_of-framed-clause-header c = (framed _ ((layout_none _).0 (sym c.in_ok-layout_fault.ensures))).front

pub invariant_of-framed-2 : goal.invariant_of-framed-2
invariant_of-framed-2 c = record { framed = framed _ ((layout_none _).0 (sym c.in_ok-layout_fault.ensures)) }

pub returns-in_err-record_faults : goal.returns-in_err-record_faults
unfolding faults ◌then◌
returns-in_err-record_faults c =
    ap (λ o. unless o accepted)
    (error_passed said_refusal _ c.from_residual-in_err-record_faults.ensures.1 ∙ rw (sym c.in_ok-layout_fault.ensures, sym c.in_err-record_faults.ensures))

pub returns : goal.returns
unfolding faults ◌then◌
returns c = ap (λ o. unless o accepted) (rw (sym c.in_ok-layout_fault.ensures, sym c.in_ok-record_faults.ensures) c.tag_faults.ensures)

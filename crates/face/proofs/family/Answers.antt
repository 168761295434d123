-- A refusal of the table is passed on; past its check the table is accepted, and what the first lookup finds decides.
use mathlib.Core.Path.{sym, ◌∙◌, ap}
use Rattle.outcomes.proofs.Calls.{outcome_passed}
use Rattle.outcomes.proofs.Laws.{passed_on}
use Rattle.name.proofs.Acceptances.{accepted_none, refused_some}
use Rattle.name_lookup.specs.Answers.{said_answer, said_lookup_refusal, lookup_of}
use Rattle.face.proofs.Families.{said_or, first_refused, first_lacks, first_has}
use Rattle.face.proofs.family.Goals as goal

pub returns-in_err-check : goal.returns-in_err-check
unfolding lookup_of
returns-in_err-check c =
    outcome_passed (λ x. x) said_lookup_refusal _ c.from_residual.ensures.1
    ∙ sym (first_refused _ _ (passed_on _ (refused_some _ c.check.ensures c.in_err-check.was)))

pub invariant_of-accepted-clause-accepted : goal.invariant_of-accepted-clause-accepted
invariant_of-accepted-clause-accepted c = accepted_none _ c.check.ensures c.in_ok-check.was

pub returns-in-Some : goal.returns-in-Some
returns-in-Some c = sym (first_has _ c.in-Some.ensures)

pub returns : goal.returns
returns c = ap said_answer c.ok_or.ensures.value ∙ said_or c.look_up-2.result ∙ c.look_up-2.ensures ∙ sym (first_lacks _ c.in_default.is c.look_up.ensures)

-- A refusal is passed on; else the table is accepted.
use Rattle.std.proofs.Common.{sym, ◌∙◌}
use Rattle.outcomes.proofs.Calls.{outcome_passed}
use Rattle.name.proofs.Acceptances.{accepted_none, refused_some}
use Rattle.name_answers.specs.Names.{said_name_refusal}
use Rattle.name_answers.proofs.NameLaws.{name_refused}
use Rattle.name_strings.proofs.postscript.Goals as goal

pub invariant_of-accepted_postscript-clause-accepted : goal.invariant_of-accepted_postscript-clause-accepted
invariant_of-accepted_postscript-clause-accepted c = accepted_none _ c.check.ensures c.in_ok-check.was

pub returns-in_err-check : goal.returns-in_err-check
returns-in_err-check c =
    outcome_passed (λ x. x) said_name_refusal _ c.from_residual.ensures.1 ∙ sym (name_refused _ (refused_some _ c.check.ensures c.in_err-check.was))

-- The refusal, or else the answer.
use Rattle.std.proofs.Common.{◌∙◌}
use Rattle.outcomes.proofs.Calls.{outcome_passed}
use Rattle.os2_acceptance.specs.Replies.{said_refusal}
use Rattle.os2_answers.specs.Replies.{said_rights_answer}
use Rattle.os2.proofs.Asked.{asked_refused, asked_parts, asked_answered}
use Rattle.os2.proofs.rights.Goals as goal

pub invariant_of-rights_answer : goal.invariant_of-rights_answer
invariant_of-rights_answer c = record { accepted = (asked_parts _ _ _ c.in_ok-known.ensures).opened }

pub returns-in_err-known : goal.returns-in_err-known
returns-in_err-known c = outcome_passed said_rights_answer said_refusal _ c.from_residual.ensures.1 ∙ asked_refused _ _ _ c.in_err-known.ensures

pub returns : goal.returns
returns c = asked_answered _ _ _ c.in_ok-known.ensures c.rights_answer.ensures

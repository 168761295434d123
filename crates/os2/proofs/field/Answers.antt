-- The refusal, or else the answer.
use Rattle.std.proofs.Common.{◌∙◌}
use native.Mathlib.Omega.{arith}
use Rattle.outcomes.specs.Outcomes.{bare}
use Rattle.os2_questions.specs.Questions.{own_refusal}
use Rattle.os2_questions.proofs.Settling.{under}
use Rattle.outcomes.proofs.Calls.{outcome_passed}
use Rattle.os2_acceptance.specs.Replies.{said_refusal}
use Rattle.os2_answers.specs.Replies.{said_answer}
use Rattle.os2.proofs.Asked.{asked_refused, asked_parts, asked_answered}
use Rattle.os2.proofs.field.Goals as goal

pub invariant_of-field_answer : goal.invariant_of-field_answer
invariant_of-field_answer c = record { accepted = (asked_parts _ _ _ c.in_ok-known.ensures).opened }

pub field_answer-requires : goal.field_answer-requires
unfolding own_refusal
field_answer-requires c =
    omega (arith, (under 47 c.args.number (bare 6)).0 (asked_parts _ _ _ c.in_ok-known.ensures).in_range)

pub returns-in_err-known : goal.returns-in_err-known
returns-in_err-known c = outcome_passed said_answer said_refusal _ c.from_residual.ensures.1 ∙ asked_refused _ _ _ c.in_err-known.ensures

pub returns : goal.returns
returns c = asked_answered _ _ _ c.in_ok-known.ensures c.field_answer.ensures

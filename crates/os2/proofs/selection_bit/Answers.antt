-- The refusal, or else the answer.
use Rattle.std.proofs.Common.{◌∙◌}
use Rattle.outcomes.proofs.Calls.{outcome_passed}
use Rattle.os2_acceptance.specs.Replies.{said_refusal}
use Rattle.os2_answers.specs.Replies.{said_answer}
use Rattle.os2.proofs.Asked.{asked_refused, asked_parts, asked_answered}
use Rattle.os2.proofs.selection_bit.Goals as goal

pub invariant_of-selection_answer : goal.invariant_of-selection_answer
invariant_of-selection_answer c = record { accepted = (asked_parts _ _ _ c.in_ok-known.ensures).opened }

pub selection_answer-requires : goal.selection_answer-requires
selection_answer-requires c = (asked_parts _ _ _ c.in_ok-known.ensures).in_range

pub returns-in_err-known : goal.returns-in_err-known
returns-in_err-known c = outcome_passed said_answer said_refusal _ c.from_residual.ensures.1 ∙ asked_refused _ _ _ c.in_err-known.ensures

pub returns : goal.returns
returns c = asked_answered _ _ _ c.in_ok-known.ensures c.selection_answer.ensures

-- The first half's refusal, or else what the second half says.
use Rattle.std.proofs.Common.{◌∙◌}
use Rattle.outcomes.proofs.Calls.{outcome_passed}
use Rattle.level.specs.Levels.{number_of}
use Rattle.os2_acceptance.specs.Replies.{said_refusal}
use Rattle.os2.proofs.Asked.{first_refused, second}
use Rattle.os2.proofs.opened.Goals as goal

pub returns-in_err-before_table : goal.returns-in_err-before_table
returns-in_err-before_table c =
    outcome_passed number_of said_refusal _ c.from_residual.ensures.1 ∙ first_refused _ _ _ c.in_err-before_table.ensures

pub returns : goal.returns
returns c = c.on_table.ensures ∙ second _ _ _ c.in_ok-before_table.ensures

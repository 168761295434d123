-- The quick test accepts; else it is what `judge` finds.
use Rattle.std.proofs.Common.{sym, ◌∙◌}
use Rattle.outcomes.specs.Outcomes.{unless}
use Rattle.outcomes.proofs.Calls.{outcome_passed}
use Rattle.level.specs.Levels.{number_of}
use Rattle.os2_acceptance.specs.Replies.{said_refusal}
use Rattle.os2.proofs.on_table.Goals as goal

pub returns-in_err-judge : goal.returns-in_err-judge
unfolding unless
returns-in_err-judge c = outcome_passed number_of said_refusal _ c.from_residual.ensures.1 ∙ rw (sym c.in_err-judge.ensures)

pub returns-in_ok-judge : goal.returns-in_ok-judge
unfolding unless
returns-in_ok-judge c = rw (sym c.in_ok-judge.ensures)

pub returns-else-not-surely_accepts : goal.returns-else-not-surely_accepts
unfolding unless
returns-else-not-surely_accepts c = rw (c.surely_accepts.ensures c.if-not-surely_accepts.false)

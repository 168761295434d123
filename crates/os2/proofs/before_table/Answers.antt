-- Refusal 1 is that of the level; else it is what `in_range` finds.
use Rattle.std.proofs.Common.{sym, ◌∙◌}
use Rattle.outcomes.specs.Outcomes.{unless}
use Rattle.outcomes.proofs.Calls.{outcome_passed}
use Rattle.level.specs.Levels.{number_of}
use Rattle.os2_acceptance.specs.Replies.{said_refusal}
use Rattle.os2.proofs.Asked.{before_above, before_known}
use Rattle.os2.proofs.before_table.Goals as goal

pub returns-in_err-known : goal.returns-in_err-known
returns-in_err-known c = outcome_passed number_of said_refusal _ c.from_residual.ensures.1 ∙ before_above _ _ _ (sym c.in_err-known.ensures)

pub returns-in_err-in_range : goal.returns-in_err-in_range
unfolding unless
returns-in_err-in_range c =
    outcome_passed number_of said_refusal _ c.from_residual-in_err-in_range.ensures.1
    ∙ before_known _ _ (sym c.in_ok-known.ensures) c.in_err-in_range.ensures

pub returns : goal.returns
unfolding unless
returns c = before_known _ _ (sym c.in_ok-known.ensures) c.in_ok-in_range.ensures

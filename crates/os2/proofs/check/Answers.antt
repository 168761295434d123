-- Refusal 1 is that of the level; else it is what `judge` says at the level of that number.
use Rattle.std.proofs.Common.{sym, ap, ◌∙◌}
use Rattle.outcomes.specs.Outcomes.{accepted, unless}
use Rattle.outcomes.proofs.Calls.{error_passed}
use Rattle.os2_acceptance.specs.Replies.{said_refusal}
use Rattle.os2_acceptance.proofs.Accepting.{checked_known, checked_refused}
use Rattle.os2.proofs.check.Goals as goal

pub returns-in_err-known : goal.returns-in_err-known
returns-in_err-known c =
    ap (λ o. unless o accepted) (error_passed said_refusal _ c.from_residual.ensures.1) ∙ checked_refused _ _ _ (sym c.in_err-known.ensures)

pub returns-then-surely_accepts : goal.returns-then-surely_accepts
returns-then-surely_accepts c =
    ap (λ o. unless o accepted) (sym (c.surely_accepts.ensures c.if-surely_accepts.true)) ∙ checked_known _ _ (sym c.in_ok-known.ensures)

pub returns : goal.returns
returns c = ap (λ o. unless o accepted) c.judge.ensures ∙ checked_known _ _ (sym c.in_ok-known.ensures)

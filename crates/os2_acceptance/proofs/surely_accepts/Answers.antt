-- What the tests leave is what acceptance asks for, and `keeps` is the rules' verdict.
use mathlib.Core.Path.{sym, ap, ◌∙◌}
use mathlib.Core.Bool.{false≢true}
use native.Mathlib.Nat.{min-eq_left}
use Rattle.os2_rules.specs.Tests.{verdict_of, kept}
use Rattle.os2_rules.proofs.Exactly.{kept_exactly, kept_true}
use Rattle.os2_acceptance.proofs.Accepting.{judged_exactly}
use Rattle.os2_acceptance.proofs.surely_accepts.Goals as goal

pub returns-then-size-lt2 : goal.returns-then-size-lt2
returns-then-size-lt2 c = λ e. absurd (false≢true e)

pub returns-then-number-version : goal.returns-then-number-version
returns-then-number-version c = λ e. absurd (false≢true e)

pub returns-then-size-version_size : goal.returns-then-size-version_size
returns-then-size-version_size c = λ e. absurd (false≢true e)

pub values-requires : goal.values-requires
values-requires c = rw (c.version_size.ensures, c.version-version.ensures) at c.if-size-version_size.false

pub returns : goal.returns
returns c =
    λ e.
    let known = rw (c.number.ensures, c.version-version.ensures) at c.if-number-version.false in
    let fits = rw (c.version_size.ensures, c.version-version.ensures) at c.if-size-version_size.false in
    let all = kept_true _ (sym (c.keeps.ensures ∙ ap (λ v. kept (verdict_of v)) c.values.ensures) ∙ e) in
    (judged_exactly _ _).1 (record { two = c.if-size-lt2.false; sized = rw (min-eq_left known) fits; ruled = λ h. (kept_exactly _).0 all })

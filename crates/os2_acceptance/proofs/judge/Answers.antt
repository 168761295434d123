-- Each return is the way to the verdict that its law names; what the size test leaves is room for the values that the rules look at.
use mathlib.Core.Path.{sym, ap, ◌∙◌}
use mathlib.Core.Logic.{inl, inr}
use native.Mathlib.Nat.{min-eq_left}
use native.Mathlib.Omega.{arith}
use Rattle.os2_rules.specs.Tests.{verdict_of}
use Rattle.os2_acceptance.proofs.Accepting.{judged_exactly, judged_short, judged_ruled}
use Rattle.outcomes.proofs.Calls.{error_passed}
use Rattle.os2_acceptance.specs.Replies.{said_refusal}
use Rattle.os2_acceptance.proofs.judge.Goals as goal

pub returns-then-table-lt2 : goal.returns-then-table-lt2
returns-then-table-lt2 c = sym (judged_short _ _ (inl c.if-table-lt2.true))

pub returns-then-table-size_read : goal.returns-then-table-size_read
returns-then-table-size_read c = sym (judged_short _ _ (inr (rw (c.size_read.ensures, c.version_of-version.ensures) at c.if-table-size_read.true)))

pub returns-then-number-version : goal.returns-then-number-version
returns-then-number-version c =
    let sized = rw (c.size_read.ensures, c.version_of-version.ensures) at c.if-table-size_read.false in
    let newer = rw (c.number.ensures, c.version_of-version.ensures) at c.if-number-version.true in
    sym ((judged_exactly _ _).1 (record { two = c.if-table-lt2.false; sized = sized; ruled = λ h. absurd (omega arith) }))

pub values-requires : goal.values-requires
values-requires c =
    let sized = rw (c.size_read.ensures, c.version_of-version.ensures) at c.if-table-size_read.false in
    let ruled = rw (c.number.ensures, c.version_of-version.ensures) at c.if-number-version.false in
    rw (min-eq_left ruled) at sized

pub returns : goal.returns
returns c =
    let sized = rw (c.size_read.ensures, c.version_of-version.ensures) at c.if-table-size_read.false in
    let ruled = rw (c.number.ensures, c.version_of-version.ensures) at c.if-number-version.false in
    c.in_ok-judge.ensures ∙ (ap verdict_of c.values.ensures ∙ sym (judged_ruled _ _ c.if-table-lt2.false sized ruled))

pub returns-in_err-judge : goal.returns-in_err-judge
returns-in_err-judge c =
    let sized = rw (c.size_read.ensures, c.version_of-version.ensures) at c.if-table-size_read.false in
    let ruled = rw (c.number.ensures, c.version_of-version.ensures) at c.if-number-version.false in
    error_passed said_refusal _ c.from_residual.ensures.1
    ∙ c.in_err-judge.ensures ∙ (ap verdict_of c.values.ensures ∙ sym (judged_ruled _ _ c.if-table-lt2.false sized ruled))

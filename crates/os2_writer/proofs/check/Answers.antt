-- Each return is the definition's at the test that was made; the version is the number for field 0 once refusal 4 is not given.
use mathlib.Core.Path.{sym, ap, ◌∙◌}
use native.Mathlib.Omega.{arith}
use mir.Syntax.{w64}
use mir.Val.{SFits}
use Rattle.os2_rules.specs.Tests.{verdict_of}
use Rattle.outcomes.specs.Outcomes.{answered, unless}
use Rattle.outcomes.proofs.Calls.{outcome_passed}
use Rattle.os2_store.specs.Writing.{number_for}
use Rattle.os2_store.proofs.Signs.{kept}
use Rattle.os2_store.proofs.Writings.{code_version}
use Rattle.os2_writer.proofs.Signs.{version_here}
use Rattle.os2_store.proofs.Outcomes.{wrote_4, wrote_5, wrote_8, wrote}
use Rattle.os2_writer.specs.Replies.{said_refusal}
use Rattle.os2_writer.proofs.check.Goals as goal

pub returns-then-no_version : goal.returns-then-no_version
returns-then-no_version c =
    let fit : SFits w64 (number_for c.args.numbers.now 0) = record { sfits = omega arith } in
    wrote_4 _ _ (rw (kept _ fit) at (sym c.no_version.ensures ∙ c.if-no_version.true))

pub overflow_cast-version : goal.overflow_cast-version
overflow_cast-version c =
    let k = version_here (number_for c.args.numbers.now 0) (record { sfits = omega arith }) c.no_version.ensures c.if-no_version.false in
    rw (kept (number_for c.args.numbers.now 0) (record { sfits = omega arith }), k.0) (tt, record { fits = omega (arith, k.1) })

pub returns-then-room-size : goal.returns-then-room-size
returns-then-room-size c =
    let k = version_here (number_for c.args.numbers.now 0) (record { sfits = omega arith }) c.no_version.ensures c.if-no_version.false in
    wrote_5 _ _ _ k.0 k.1 (rw c.version_size-size.ensures at c.if-room-size.true)

pub returns-in-Some : goal.returns-in-Some
returns-in-Some c =
    let k = version_here (number_for c.args.numbers.now 0) (record { sfits = omega arith }) c.no_version.ensures c.if-no_version.false in
    let long = rw c.version_size-size.ensures at c.if-room-size.false in
    wrote_8 _ _ _ k.0 k.1 long c.in-Some.ensures

pub values-requires : goal.values-requires
values-requires c =
    let k = version_here (number_for c.args.numbers.now 0) (record { sfits = omega arith }) c.no_version.ensures c.if-no_version.false in
    (record { full = c.requires; most = k.1; fitting = sym c.in_default.ensures }, code_version c.args.numbers.now _ k.0)

pub returns-in_err-judge : goal.returns-in_err-judge
unfolding unless
returns-in_err-judge c =
    let k = version_here (number_for c.args.numbers.now 0) (record { sfits = omega arith }) c.no_version.ensures c.if-no_version.false in
    let long = rw c.version_size-size.ensures at c.if-room-size.false in
    outcome_passed (λ n. n) said_refusal _ c.from_residual.ensures.1
    ∙ wrote _ _ _ k.0 k.1 long c.in_default.ensures (c.in_err-judge.ensures ∙ ap verdict_of c.values.ensures)

pub returns : goal.returns
unfolding unless
returns c =
    let k = version_here (number_for c.args.numbers.now 0) (record { sfits = omega arith }) c.no_version.ensures c.if-no_version.false in
    let long = rw c.version_size-size.ensures at c.if-room-size.false in
    ap answered c.version_size-size.ensures ∙ wrote _ _ _ k.0 k.1 long c.in_default.ensures (c.in_ok-judge.ensures ∙ ap verdict_of c.values.ensures)

-- Where the check answers a size, the fields are stored; where it refuses, the room is not touched.
use mathlib.Core.Path.{sym, ◌∙◌}
use native.Mathlib.Omega.{arith}
use mir.Syntax.{w64}
use mir.Val.{SFits}
use Rattle.os2_store.specs.Writing.{number_for}
use Rattle.os2_store.proofs.Writings.{success, code_version, room_written, room_refused}
use Rattle.os2_store.proofs.Signs.{kept}
use Rattle.os2_writer.proofs.Signs.{version_known}
use borrow.Author.Rules.{rules}
use Rattle.outcomes.proofs.Calls.{outcome_passed}
use Rattle.os2_writer.specs.Replies.{said_refusal}
use Rattle.os2_writer.proofs.write.Goals as goal

-- where the check answers a size, its tests have passed
pub overflow_cast-version : goal.overflow_cast-version
overflow_cast-version c =
    let fit : SFits w64 (number_for c.args.numbers 0) = record { sfits = omega arith } in
    let done = success _ _ _ (sym c.in_ok-size.ensures) in
    let k = version_known _ fit done.versioned in
    rw (kept _ fit, k.0) (tt, record { fits = omega (arith, k.1) })

pub store-requires : goal.store-requires
store-requires c =
    let fit : SFits w64 (number_for c.args.numbers 0) = record { sfits = omega arith } in
    let done = success _ _ _ (sym c.in_ok-size.ensures) in
    let k = version_known _ fit done.versioned in
    let version = code_version c.args.numbers _ k.0 in
    record {
      fit = record { full = search rules; most = k.1; fitting = rw version at done.fitting };
      long = rw version at done.long;
    }

pub returns-in_err-size : goal.returns-in_err-size
returns-in_err-size c =
    let e = outcome_passed (λ n. n) said_refusal _ c.from_residual.ensures.1 ∙ c.in_err-size.ensures in
    (e, sym (room_refused _ _ _ _ (sym c.in_err-size.ensures)))

pub returns : goal.returns
returns c =
    let fit : SFits w64 (number_for c.args.numbers 0) = record { sfits = omega arith } in
    let done = success _ _ _ (sym c.in_ok-size.ensures) in
    let k = version_known _ fit done.versioned in
    let version = code_version c.args.numbers _ k.0 in
    let written = rw version at (room_written c.args.numbers c.args.room.now c.in_ok-size.size (sym c.in_ok-size.ensures)) in
    (c.in_ok-size.ensures, c.store.ensures ∙ sym written)

-- The refusals in their order, then the face, each by its law: the level is one of the six, and it accepts the 'OS/2' table, whose version is then answered; past 52
-- the family decides.
use Prim.Native.Nat.{ℕ, ◌≤◌}
use mathlib.Core.Path.{◌≡◌, sym, ◌∙◌, ap, subst}
use mathlib.Core.List.{List}
use native.Mathlib.Omega.{arith}
use borrow.Author.Tests.{lt-ltb, le-ltb}
use lib.Dec.{ltb}
use Rattle.bigendian.specs.Numbers.{Bytes}
use Rattle.outcomes.specs.Outcomes.{answered}
use Rattle.level.proofs.Laws.{known, refused}
use Rattle.os2_acceptance.specs.Settled.{Accepted}
use Rattle.os2_fields.specs.Fields.{version}
use Rattle.face.specs.Reading.{newer, family_of, face_in, named}
use Rattle.face.specs.Replies.{face_at, Fits}
use Rattle.face.proofs.Answers.{styles_are, words_are}
use Rattle.face.proofs.Cases.{face_above, face_judged, face_accepted, face_version, face_newness, passed_on}
use Rattle.face.proofs.Cases.{face_refused, face_newer, face_named, named_refused, named_unfit, named_face, face_fits}
use Rattle.face.proofs.read.Goals as goal

-- whether an accepted table is newer, by its version
above : (level : ℕ) (table : List ℕ) {found : ℕ} → level ≤ 5 → Accepted level table → found ≡ version table → newer level table ≡ ltb level found
above level table l a e = face_newness level table l a ∙ ap (ltb level) (sym e)

-- where it is not, the family decides
naming : (level : ℕ) (table name : List ℕ) {found : ℕ} → level ≤ 5 → Accepted level table → found ≡ version table → found ≤ level
    → face_in level table name ≡ named level table name (family_of name)
naming level table name l a e f = face_named level table name (face_version level table l a) (above level table l a e ∙ le-ltb _ _ f)

pub returns-in_err-known : goal.returns-in_err-known
returns-in_err-known c =
    passed_on _ _ _ c.from_residual.ensures.1 (sym (face_refused _ _ _ (face_above _ _ (refused _ _ (sym c.in_err-known.ensures)))))

pub returns-in_err-on_table : goal.returns-in_err-on_table
returns-in_err-on_table c =
    let level = known _ _ (sym c.in_ok-known.ensures) in
    passed_on _ _ _ c.from_residual-in_err-on_table.ensures.1 (sym (face_refused _ _ _ (face_judged _ _ _ _ level.0 level.1 c.in_err-on_table.ensures)))

pub version_of-requires : goal.version_of-requires
version_of-requires c =
    let level = known _ _ (sym c.in_ok-known.ensures) in
    (face_accepted _ _ _ _ level.1 c.in_ok-on_table.ensures).two

pub returns-then-level-version_of : goal.returns-then-level-version_of
returns-then-level-version_of c =
    let level = known _ _ (sym c.in_ok-known.ensures) in
    let accepted = face_accepted _ _ _ _ level.1 c.in_ok-on_table.ensures in
    let later = above _ _ level.0 accepted c.version_of.ensures ∙ lt-ltb _ _ c.if-level-version_of.true in
    (sym (face_newer _ _ _ (face_version _ _ level.0 accepted) later), tt)

pub returns-in_err-text : goal.returns-in_err-text
returns-in_err-text c =
    let level = known _ _ (sym c.in_ok-known.ensures) in
    let accepted = face_accepted _ _ _ _ level.1 c.in_ok-on_table.ensures in
    let family = naming _ _ _ level.0 accepted c.version_of.ensures c.if-level-version_of.false in
    passed_on _ _ _ c.from_residual-in_err-text.ensures.1 (sym (family ∙ named_refused _ _ _ (sym c.in_err-text.ensures)))

pub returns-then-is_unfit : goal.returns-then-is_unfit
returns-then-is_unfit c =
    let level = known _ _ (sym c.in_ok-known.ensures) in
    let accepted = face_accepted _ _ _ _ level.1 c.in_ok-on_table.ensures in
    let family = naming _ _ _ level.0 accepted c.version_of.ensures c.if-level-version_of.false in
    (sym (family ∙ named_unfit _ _ _ (sym c.in_ok-text.ensures) (sym c.is_unfit.ensures ∙ c.if-is_unfit.true)), tt)

pub styled-requires : goal.styled-requires
styled-requires c =
    let level = known _ _ (sym c.in_ok-known.ensures) in
    words_are _ _ (face_accepted _ _ _ _ level.1 c.in_ok-on_table.ensures)

pub returns : goal.returns
returns c =
    let name = c.args.name.now in
    let bytes : Bytes name = λ i. omega (arith, c.type_inv.name i) in
    let level = known _ _ (sym c.in_ok-known.ensures) in
    let accepted = face_accepted _ _ _ _ level.1 c.in_ok-on_table.ensures in
    let family = naming _ _ _ level.0 accepted c.version_of.ensures c.if-level-version_of.false in
    let found = sym c.in_ok-text.ensures in
    let fit = sym c.is_unfit.ensures ∙ c.if-is_unfit.false in
    let style = c.styled.ensures ∙ styles_are c.args.level _ c.in_ok-text.text level.0 accepted in (
      ap (λ x. answered (face_at name x)) style ∙ sym (family ∙ named_face _ _ _ found fit),
      subst (Fits _) (sym style) (face_fits _ _ _ bytes found fit),
    )

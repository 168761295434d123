-- The refusals in their order, then what the tables give: past 1 the level is one of the six, past 54 there is such a slot.
use mathlib.Core.Path.{sym, ◌∙◌}
use Rattle.level.proofs.Laws.{known, refused}
use Rattle.chooser.proofs.Steps.{tables_1, tables_54, tables_53, tables_past, passed_on}
use Rattle.chooser.proofs.loading.Goals as goal

pub returns-in_err-try_from : goal.returns-in_err-try_from
returns-in_err-try_from c = passed_on _ _ _ c.from_residual.ensures.1 (sym (tables_1 _ _ _ _ (refused _ _ (sym c.in_err-try_from.ensures))))

pub returns-then-is_none : goal.returns-then-is_none
returns-then-is_none c =
    let level = known _ _ (sym c.in_ok-try_from.ensures) in
    (sym (tables_54 _ _ _ _ level.0 (sym c.if-is_none.ensures)), tt)

pub returns-then-taken : goal.returns-then-taken
returns-then-taken c =
    let level = known _ _ (sym c.in_ok-try_from.ensures) in
    (sym (tables_53 _ _ _ _ level.0 (sym c.if-is_none.ensures) c.if-taken.true), tt)

pub returns-in_err-face : goal.returns-in_err-face
returns-in_err-face c =
    let level = known _ _ (sym c.in_ok-try_from.ensures) in
    let past = tables_past _ _ _ _ level.0 (sym c.if-is_none.ensures) c.if-taken.false in
    passed_on _ _ _ c.from_residual-in_err-face.ensures.1 (c.in_err-face.ensures.0 ∙ sym past)

pub returns : goal.returns
returns c =
    let level = known _ _ (sym c.in_ok-try_from.ensures) in
    let past = tables_past _ _ _ _ level.0 (sym c.if-is_none.ensures) c.if-taken.false in
    (c.in_ok-face.ensures.0 ∙ sym past, c.in_ok-face.ensures.1)

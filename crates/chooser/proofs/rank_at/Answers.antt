-- An unfit length is no face, and another family none of the wanted ones.
use mathlib.Core.Path.{sym, ◌∙◌, ap}
use borrow.Author.Rules.{rules}
use lib.Seq.{length-take-le}
use Rattle.face.specs.Reading.{unfit}
use Rattle.chooser.proofs.Ranked.{within, stands_none, stands_other, stands_face}
use Rattle.chooser.proofs.rank_at.Goals as goal

pub returns-then-is_unfit : goal.returns-then-is_unfit
returns-then-is_unfit c = stands_none _ _ _ _ (ap unfit (sym c.from-len.ensures) ∙ sym c.is_unfit.ensures ∙ c.if-is_unfit.true)

pub slice_bounds-text-end : goal.slice_bounds-text-end
slice_bounds-text-end c = within _ (search rules) (sym c.is_unfit.ensures ∙ c.if-is_unfit.false)

pub slice_bounds-same_fresh-end : goal.slice_bounds-same_fresh-end
slice_bounds-same_fresh-end c = sym (length-take-le _ _ (within _ (search rules) (sym c.is_unfit.ensures ∙ c.if-is_unfit.false)))

pub returns-then-same_fresh : goal.returns-then-same_fresh
returns-then-same_fresh c =
    let fit = ap unfit (sym c.from-len.ensures) ∙ sym c.is_unfit.ensures ∙ c.if-is_unfit.false in
    let same = sym (rw c.from-len.ensures at c.same_fresh.ensures) ∙ c.if-same_fresh.true in
    stands_face _ _ _ _ fit same (search rules) (search rules) (search rules) c.rank.ensures

pub returns : goal.returns
returns c =
    let fit = ap unfit (sym c.from-len.ensures) ∙ sym c.is_unfit.ensures ∙ c.if-is_unfit.false in
    let other = sym (rw c.from-len.ensures at c.same_fresh.ensures) ∙ c.if-same_fresh.false in
    stands_other _ _ _ _ fit other

-- Each table is checked, the differences are counted, and they are written where there are rows enough.
use mathlib.Core.Path.{refl, sym, ap, ◌∙◌}
use Rattle.name.proofs.Acceptances.{accepted_none, refused_some}
use Rattle.comparing.specs.Comparisons.{listed}
use Rattle.comparing.proofs.Rooms.{enough_exactly}
use Rattle.comparing.proofs.Settling.{way_left, way_right, way_many, way_listed, is_refused, is_listed}
use Rattle.name_compare.specs.Comparisons.{blame_of, compared_of, room_of}
use Rattle.name_compare.proofs.compare.Goals as goal

pub returns-in-Err : goal.returns-in-Err
unfolding blame_of compared_of room_of
returns-in-Err c = is_refused _ _ _ (way_left _ _ _ _ _ refl (refused_some _ c.check.ensures c.in-Err.is))

pub returns-in-Err-check : goal.returns-in-Err-check
unfolding blame_of compared_of room_of
returns-in-Err-check c =
    let left = accepted_none _ c.check.ensures c.in_default.is in
    is_refused _ _ _
    (way_right _ _ _ _ _ refl left (refused_some _ c.check-2.ensures c.in-Err-check.is))

-- past its check each table is accepted
pub invariant_of-pair-clause-accepted : goal.invariant_of-pair-clause-accepted
invariant_of-pair-clause-accepted c = accepted_none _ c.check.ensures c.in_default.is

pub invariant_of-pair-2-clause-accepted : goal.invariant_of-pair-2-clause-accepted
invariant_of-pair-2-clause-accepted c = accepted_none _ c.check-2.ensures c.in_default-check.is

pub returns-then-too_many : goal.returns-then-too_many
unfolding blame_of compared_of room_of
returns-then-too_many c =
    let left = accepted_none _ c.check.ensures c.in_default.is in
    let right = accepted_none _ c.check-2.ensures c.in_default-check.is in
    let n = c.count_differences-count.ensures in
    is_refused _ _ _
    (way_many _ _ _ _ _ refl left right (sym (rw n at c.too_many.ensures) ∙ c.if-too_many.true))

pub write_differences-requires : goal.write_differences-requires
write_differences-requires c =
    (c.count_differences-count.ensures, (enough_exactly _ _).0 (sym c.too_many.ensures ∙ c.if-too_many.false))

pub returns : goal.returns
unfolding blame_of compared_of room_of
returns c =
    let left = accepted_none _ c.check.ensures c.in_default.is in
    let right = accepted_none _ c.check-2.ensures c.in_default-check.is in
    let n = c.count_differences-count.ensures in
    let enough = sym (rw n at c.too_many.ensures) ∙ c.if-too_many.false in
    let p = is_listed _ _ _ (way_listed _ _ _ _ _ refl left right enough) in
    (ap listed n ∙ p.0, c.write_differences.ensures ∙ p.1)

-- The level is checked, then each table; the differences are counted, and written where there are rows enough.
use Rattle.std.proofs.Common.{sym, ap, ◌∙◌}
use Rattle.os2_acceptance.specs.Replies.{said_found}
use Rattle.comparing.proofs.Rooms.{too_many_exactly, enough_exactly}
use Rattle.os2_compare.proofs.Ways.{level_refused, left_refused, right_refused, too_many, all_listed}
use Rattle.os2_compare.proofs.compare.Goals as goal

pub returns-in_default : goal.returns-in_default
returns-in_default c = level_refused _ _ _ _ (sym c.in_default.ensures)

pub returns-in-Err : goal.returns-in-Err
returns-in-Err c = left_refused _ _ _ _ (sym c.in-Ok.ensures) (sym c.judge.ensures ∙ ap said_found c.in-Err.is)

pub returns-in-Err-judge : goal.returns-in-Err-judge
returns-in-Err-judge c =
    let left = sym c.judge.ensures ∙ ap said_found c.in_default-judge.is in
    right_refused _ _ _ _ (sym c.in-Ok.ensures) left (sym c.judge-2.ensures ∙ ap said_found c.in-Err-judge.is)

pub count_differences-count-requires : goal.count_differences-count-requires
count_differences-count-requires c =
    let left = sym c.judge.ensures ∙ ap said_found c.in_default-judge.is in
    let right = sym c.judge-2.ensures ∙ ap said_found c.in_default-judge-2.is in
    record { on_left = left; on_right = right }

pub returns-then-too_many : goal.returns-then-too_many
returns-then-too_many c =
    let left = sym c.judge.ensures ∙ ap said_found c.in_default-judge.is in
    let right = sym c.judge-2.ensures ∙ ap said_found c.in_default-judge-2.is in
    too_many _ _ _ _ (sym c.in-Ok.ensures) left right c.count_differences-count.ensures
    ((too_many_exactly _ _).0 (sym c.too_many.ensures ∙ c.if-too_many.true))

pub write_differences-requires : goal.write_differences-requires
write_differences-requires c =
    let left = sym c.judge.ensures ∙ ap said_found c.in_default-judge.is in
    let right = sym c.judge-2.ensures ∙ ap said_found c.in_default-judge-2.is in
    let enough = (enough_exactly _ _).0 (sym c.too_many.ensures ∙ c.if-too_many.false) in
    (record { on_left = left; on_right = right }, c.count_differences-count.ensures, enough)

pub returns : goal.returns
returns c =
    let left = sym c.judge.ensures ∙ ap said_found c.in_default-judge.is in
    let right = sym c.judge-2.ensures ∙ ap said_found c.in_default-judge-2.is in
    all_listed _ _ _ _ (sym c.in-Ok.ensures) left right c.count_differences-count.ensures
    ((enough_exactly _ _).0 (sym c.too_many.ensures ∙ c.if-too_many.false)) c.write_differences.ensures

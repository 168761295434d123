-- The entries before have no fault, so the next one's is the first.
use mathlib.Core.Path.{sym, ◌∙◌, ap}
use native.Mathlib.Omega.{arith}
use Rattle.std.proofs.lemmas.Result.{err_from_is_err_and}
use Rattle.outcomes.specs.Outcomes.{answered}
use Rattle.name_store.proofs.Faults.{fault_near, checked_none, fault_here, checked_more, checked_all, refused_many, refused_entry, refused_room, not_refused_size}
use Rattle.name_store.proofs.checked_size.Goals as goal

pub returns-then-entries-gt-MOST_ENTRIES-clause-answer : goal.returns-then-entries-gt-MOST_ENTRIES-clause-answer
returns-then-entries-gt-MOST_ENTRIES-clause-answer c = sym (refused_many _ _ _ c.if-entries-gt-MOST_ENTRIES.true)

pub loop-i-init : goal.loop-i-init
loop-i-init c = checked_none _ _

pub returns-in_err-check-clause-answer : goal.returns-in_err-check-clause-answer
returns-in_err-check-clause-answer c =
    let p = err_from_is_err_and c.from_residual.result c.from_residual.ensures.1 in
    let v = c.loop-i.invariant in
    rw (p.1, p.2) (sym (refused_entry _ _ _ c.if-entries-gt-MOST_ENTRIES.false c.loop-i.i _ c.loop-i-test.true v.faultless
    (sym (fault_here _ _ _ v c.check.ensures.sixteen) ∙ sym c.in_err-check.ensures.fault)))

pub overflow_add-offset : goal.overflow_add-offset
overflow_add-offset c = let n = fault_near _ _ _ _ _ (sym c.in_ok-check.ensures.fault) in let s = c.check.ensures.sixteen.length in omega arith

pub loop-i-preserved : goal.loop-i-preserved
loop-i-preserved c = checked_more _ _ _ c.loop-i.invariant c.check.ensures.sixteen (sym c.in_ok-check.ensures.fault) c.in_ok-check.ensures.key

pub returns-then-room-size-clause-answer : goal.returns-then-room-size-clause-answer
returns-then-room-size-clause-answer c =
    let a = checked_all _ _ c.loop-i.i (omega arith) c.loop-i.invariant in
    sym (refused_room _ _ _ c.if-entries-gt-MOST_ENTRIES.false a.0 (omega (arith, a.1)))

pub returns-clause-answer : goal.returns-clause-answer
returns-clause-answer c =
    let a = checked_all _ _ c.loop-i.i (omega arith) c.loop-i.invariant in
    ap answered a.1 ∙ sym (not_refused_size _ _ _ c.if-entries-gt-MOST_ENTRIES.false a.0 (omega (arith, a.1)))

-- After a refusal the room is as it was; what is answered is not refused. Both are what the two sweeps give.
use mathlib.Core.Path.{sym, ◌∙◌}
use Rattle.std.proofs.lemmas.Result.{err_from_is_err_and}
use Rattle.name_store.proofs.Right.{is_answered, write_right}
use Rattle.name_writer.proofs.Sweeps.{kept_word, safe_first, safe_second}
use Rattle.name_writer.proofs.write.Goals as goal

pub returns-in_err-size-clause-answer : goal.returns-in_err-size-clause-answer
returns-in_err-size-clause-answer c =
    let p = err_from_is_err_and c.from_residual.result c.from_residual.ensures.1 in
    rw (p.1, p.2) (c.in_err-size.ensures.answer, sym (write_right.untouched _ _ _ _ _ (sym c.in_err-size.ensures.answer)))

pub returns-in_err-size-clause-swept : goal.returns-in_err-size-clause-swept
returns-in_err-size-clause-swept c =
    let p = err_from_is_err_and c.from_residual.result c.from_residual.ensures.1 in
    let k = kept_word _ _ _ c.sixteen.ensures in
    rw (p.1, p.2)
    (sym (write_right.untouched _ _ _ _ _ (sym c.in_err-size.ensures.answer)) ∙ sym k.0, c.in_err-size.ensures.answer ∙ sym k.1)

pub returns-in_err-size-clause-safe : goal.returns-in_err-size-clause-safe
returns-in_err-size-clause-safe c = record { first = safe_first _ _ _; second = safe_second _ _ _ c.sixteen.ensures }

pub store-requires : goal.store-requires
store-requires c = (is_answered _ _ _ _ (sym c.in_ok-size.ensures.answer)).0

pub returns-clause-swept : goal.returns-clause-swept
returns-clause-swept c =
    let k = kept_word _ _ _ c.sixteen.ensures in
    (c.store.ensures ∙ sym k.0, c.in_ok-size.ensures.answer ∙ sym k.1)

pub returns-clause-safe : goal.returns-clause-safe
returns-clause-safe c = record { first = safe_first _ _ _; second = safe_second _ _ _ c.sixteen.ensures }

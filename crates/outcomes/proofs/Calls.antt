-- An error that `?` passes on: what the caller's Result then says, where `from_gives` says which error it becomes.
-- Assumes nothing.
use Rattle.std.proofs.Common.{◌≡◌, refl, ap}
use Rattle.std.specs.Prelude.{Result, Ok, Err, IsErrAnd}
use Rattle.std.proofs.Math.Option.{some}
use Rattle.outcomes.specs.Outcomes.{Refusal, refusing, error_of, outcome_of}

pub error_passed : {T E : Type 0} (why : E → Refusal) (r : Result T E) {e : E} → IsErrAnd r (λ x. x ≡ e) → error_of why r ≡ some (why e)
error_passed why (Ok x) h = absurd h
error_passed why (Err x) h = ap (λ y. some (why y)) h

pub outcome_passed : {T E A : Type 0} (value : T → A) (why : E → Refusal) (r : Result T E) {e : E} → IsErrAnd r (λ x. x ≡ e) →
    outcome_of value why r ≡ refusing (why e)
outcome_passed value why (Ok x) h = absurd h
outcome_passed value why (Err x) h = ap (λ y. refusing (why y)) h

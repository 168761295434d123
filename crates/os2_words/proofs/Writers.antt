-- The words of a writer, from what its refusals convert to.
-- Assumes nothing.
use Rattle.std.proofs.Common.{ℕ, ◌≡◌, ap, ◌∙◌}
use Rattle.std.specs.Prelude.{Result, Ok, Err, IfOk, IfErr}
use Rattle.outcomes.specs.declared.Told.{Told}
use Rattle.outcomes.specs.Outcomes.{Refusal, refusal_of, answered, refusing, outcome_of}
use Rattle.os2_words.specs.declared.GvWritten.{GvWritten}
use Rattle.os2_words.specs.Words.{written_words}

pub written_said : {E : Type 0} (why : E → Refusal) (r : Result ℕ E) {w : GvWritten} → IfOk r (λ n. w ≡ written_words (answered n))
    → IfErr r (λ e. (told : Told) × (refusal_of told ≡ why e) × (w ≡ written_words (refusing (refusal_of told))))
    → w ≡ written_words (outcome_of (λ n. n) why r)
written_said why (Ok n) a b = a
written_said why (Err e) a b = b.2 ∙ ap (λ x. written_words (refusing x)) b.1

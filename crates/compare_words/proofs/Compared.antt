-- The words of a comparison, from what its refusals convert to.
-- Assumes nothing.
use Rattle.std.proofs.Common.{ℕ, ◌≡◌, ap, ◌∙◌}
use Rattle.std.specs.Prelude.{Result, Ok, Err, IfOk, IfErr}
use Rattle.comparing.specs.declared.Blame.{Blame}
use Rattle.comparing.specs.Comparisons.{Blamed, listed, refused, blamed_of, said_by}
use Rattle.compare_words.specs.declared.GvCompared.{GvCompared}
use Rattle.compare_words.specs.Words.{compared_words}

pub compared_said : {E : Type 0} (why : E → Blamed) (r : Result ℕ E) {w : GvCompared} → IfOk r (λ n. w ≡ compared_words (listed n))
    → IfErr r (λ e. (blame : Blame) × (blamed_of blame ≡ why e) × (w ≡ compared_words (refused (blamed_of blame).side (blamed_of blame).refusal)))
    → w ≡ compared_words (said_by why r)
compared_said why (Ok n) a b = a
compared_said why (Err e) a b = b.2 ∙ ap (λ (x : Blamed). compared_words (refused x.side x.refusal)) b.1

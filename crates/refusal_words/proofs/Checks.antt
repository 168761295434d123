-- The words of a check, from what its refusals convert to.
-- Assumes nothing.
use Rattle.std.proofs.Common.{◌≡◌, ap, ◌∙◌}
use Rattle.std.specs.Prelude.{Result, Ok, Err, OnOk, IfErr}
use Rattle.outcomes.specs.declared.Told.{Told}
use Rattle.outcomes.specs.Outcomes.{Refusal, refusal_of, accepted, unless, error_of}
use Rattle.refusal_words.specs.declared.GvRefusal.{GvRefusal}
use Rattle.refusal_words.specs.Words.{no_refusal, told_words, outcome_refusal}

pub check_said : {E : Type 0} (why : E → Refusal) (r : Result (Unit {0}) E) {w : GvRefusal} → OnOk r (w ≡ no_refusal)
    → IfErr r (λ e. (told : Told) × (refusal_of told ≡ why e) × (w ≡ told_words (refusal_of told)))
    → w ≡ outcome_refusal (unless (error_of why r) accepted)
unfolding outcome_refusal unless
check_said why (Ok u) a b = a
check_said why (Err e) a b = b.2 ∙ ap told_words b.1

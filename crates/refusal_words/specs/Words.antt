-- A refusal in the words of C: what stands in each member of its struct. A member that does not apply is 0.
-- "A refusal returns its number and what it carries, and no partial result."
use Rattle.std.specs.Prelude.{ℕ}
use Rattle.std.proofs.Math.Option.{Option, none, some}
use Rattle.outcomes.specs.Outcomes.{Refusal, Outcome, refused, answered}
use Rattle.refusal_words.specs.declared.GvRefusal.{GvRefusal}

abbrev pub refusal_words : ℕ → Option ℕ → GvRefusal
refusal_words n none = record { number = n; carries = 0; carried = 0 }
refusal_words n (some k) = record { number = n; carries = 1; carried = k }

-- where the call is not refused
abbrev pub no_refusal : GvRefusal
no_refusal = refusal_words 0 none

-- a refusal as the code tells it
abbrev pub told_words : Refusal → GvRefusal
told_words r = refusal_words r.number r.carried

-- the refusal in what a check, a question or the writer says
unfoldable pub outcome_refusal : {A : Type 0} → Outcome A → GvRefusal
outcome_refusal (refused n c) = refusal_words n c
outcome_refusal (answered a) = no_refusal

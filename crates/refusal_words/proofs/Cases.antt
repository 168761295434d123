-- The words of a refusal written out as include/gyalvindor.h has them, member by member: by computing.
-- Assumes nothing.
use Prim.Native.Nat.{ℕ}
use mathlib.Core.Path.{◌≡◌, refl}
use mathlib.Core.Option.{none, some}
use Rattle.outcomes.specs.Outcomes.{bare, carrying, refused, accepted}
use Rattle.refusal_words.specs.declared.GvRefusal.{GvRefusal}
use Rattle.refusal_words.specs.Words.{told_words, outcome_refusal}

-- the members in the header's order
abbrev why_words : (number carries carried : ℕ) → GvRefusal
why_words n c k = record { number = n; carries = c; carried = k }

-- "Where the call is not refused, `number` is 0, and so are `carries` and `carried`."
abbrev pub ok : GvRefusal
ok = why_words 0 0 0

-- ---- whatever carries something says so by 1, whatever carries nothing has 0 twice

pub refused_carrying : (n k : ℕ) → outcome_refusal {A = Unit {0}} (refused n (some k)) ≡ why_words n 1 k
unfolding outcome_refusal
refused_carrying n k = refl

pub refused_bare : (n : ℕ) → outcome_refusal {A = Unit {0}} (refused n none) ≡ why_words n 0 0
unfolding outcome_refusal
refused_bare n = refl

pub not_refused : outcome_refusal accepted ≡ why_words 0 0 0
unfolding outcome_refusal
not_refused = refl

-- ---- a refusal as the code tells it: the same

pub told_carrying : (n k : ℕ) → told_words (carrying n k) ≡ why_words n 1 k
told_carrying n k = refl

pub told_bare : (n : ℕ) → told_words (bare n) ≡ why_words n 0 0
told_bare n = refl

-- The words of a comparison written out as include/gyalvindor.h has them, member by member: by computing.
-- Assumes nothing.
use Prim.Native.Nat.{ℕ}
use mathlib.Core.Path.{◌≡◌, refl}
use Rattle.outcomes.specs.Outcomes.{bare, carrying}
use Rattle.comparing.specs.Comparisons.{Neither, Left, Right}
use Rattle.comparing.specs.Comparisons.{listed, refused}
use Rattle.compare_words.specs.declared.GvCompared.{GvCompared}
use Rattle.compare_words.specs.Words.{compared_words}

-- the members in the header's order
abbrev members : (number carries carried side rows : ℕ) → GvCompared
members number carries carried side rows = record { refusal = record { number = number; carries = carries; carried = carried }; side = side; rows = rows }

pub rows_written : (n : ℕ) → compared_words (listed n) ≡ members 0 0 0 0 n
unfolding compared_words
rows_written n = refl

pub left_refused : (n k : ℕ) → compared_words (refused Left (carrying n k)) ≡ members n 1 k 1 0
unfolding compared_words
left_refused n k = refl

pub right_refused : (n k : ℕ) → compared_words (refused Right (carrying n k)) ≡ members n 1 k 2 0
unfolding compared_words
right_refused n k = refl

pub without_side : (n : ℕ) → compared_words (refused Neither (bare n)) ≡ members n 0 0 0 0
unfolding compared_words
without_side n = refl

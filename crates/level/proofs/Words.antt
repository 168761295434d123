-- One more character of a word: what is left of it, read behind the number so far, gives what the word gives.
-- Assumes nothing.
use Prim.Native.Nat.{ℕ, suc, ◌+◌, ◌≤◌, ◌<◌, min}
use mathlib.Core.Path.{◌≡◌, refl, sym, ap}
use mathlib.Core.Bool.{true, false}
use mathlib.Core.Option.{Option, none, some}
use mathlib.Core.List.{List, [], ◌∷◌}
use native.Mathlib.Numerals.{add-one}
use native.Mathlib.Omega.{arith}
use lib.ListN.{length, drop, get_or, drop_of_length-le}
use lib.Seq.{drop-cons}
use borrow.Author.Tests.{lt-ltb}
use Rattle.outcomes.specs.Firsts.{when}
use Rattle.characters.specs.Digits.{digit, all_digits, longer, reads_from}
use Rattle.characters.proofs.Digits.{held_reads}
use Rattle.level.specs.Words.{level_in}

-- what a text gives behind a number read already
unfoldable pub level_from : ℕ → List ℕ → Option ℕ
level_from n l = when (all_digits l) (min 6 (reads_from n l))

pub is_empty : (l : List ℕ) → length l ≡ 0 → none ≡ level_in l
unfolding level_in when
is_empty [] h = refl
is_empty (c ∷ cs) h = absurd (omega arith)

pub not_empty : (l : List ℕ) → (length l ≡ 0 → ⊥) → level_in l ≡ level_from 0 l
unfolding level_in level_from
not_empty l h = let some : 0 < length l = omega arith in rw (lt-ltb 0 (length l) some)

module _ (l : List ℕ) (n i : ℕ) where
  module _ (h : i < length l) where
    pub step_other : digit (get_or l i 0) ≡ false → level_from n (drop i l) ≡ none
    unfolding level_from all_digits when
    step_other e = rw (drop-cons l i 0 h, e)

    pub step_digit : digit (get_or l i 0) ≡ true → level_from n (drop i l) ≡ level_from (min 6 (longer n (get_or l i 0))) (drop (i + 1) l)
    unfolding level_from all_digits
    step_digit e =
        rw (add-one, drop-cons l i 0 h, e)
        (ap (when (all_digits (drop (suc i) l))) (sym (held_reads 6 (longer n (get_or l i 0)) (drop (suc i) l))))

  pub step_end : length l ≤ i → n ≤ 6 → level_from n (drop i l) ≡ some n
  unfolding level_from all_digits when
  step_end h k = rw (drop_of_length-le l h) (ap some (omega arith))

-- Laws of a start: where a number may start, which start yields nothing, and which yields the number read.
-- Assumes nothing.
use Prim.Native.Nat.{ℕ, zero, suc, ◌+◌, ◌-◌, ◌<◌, ◌≤◌, min}
use native.Mathlib.Omega.{arith}
use mathlib.Core.Path.{◌≡◌, refl}
use mathlib.Core.Bool.{true, false, not, ◌&&◌, and-false}
use mathlib.Core.Option.{none, some}
use mathlib.Core.List.{List}
use borrow.Author.Tests.{lt-ltb, le-ltb, eq-eqb, ne_eqb}
use Rattle.outcomes.specs.Firsts.{when}
use Rattle.characters.specs.Digits.{digit}
use Rattle.characters.specs.Strings.{char}
use Rattle.version_text.specs.Versions.{period, group_figure, small, may_start, is_number, number_at}
use Rattle.version_text.proofs.Groups.{Read}

-- a start that is not the first place
pub may_start_later : (l : List ℕ) (i : ℕ) → (i ≡ 0 → ⊥) → may_start l i ≡ (not (digit (char l (i - 1))) && digit (char l i))
unfolding may_start
may_start_later l zero h = absurd (h refl)
may_start_later l (suc i) h = let e : suc i - 1 ≡ i = omega arith in rw e

large : (a x : ℕ) → a ≡ min 65535 x → 65535 ≤ a → small x ≡ false
unfolding small
large a x e h = le-ltb x 65535 (omega arith)

exact : (a x : ℕ) → a ≡ min 65535 x → a < 65535 → a ≡ x
exact a x e h = omega arith

module _ (l : List ℕ) (i : ℕ) where
  pub no_start : may_start l i ≡ false → number_at l i ≡ none
  unfolding number_at is_number when
  no_start e = rw e

  module _ (j a : ℕ) (first : Read l i j a) where
    pub no_period : (char l j ≡ 46 → ⊥) → number_at l i ≡ none
    unfolding number_at is_number when period
    no_period n = rw (← first.ends, ne_eqb (char l j) 46 n, and-false)

    pub no_second : digit (char l (j + 1)) ≡ false → number_at l i ≡ none
    unfolding number_at is_number when
    no_second e = rw (← first.ends, e, and-false)

    pub first_large : 65535 ≤ a → number_at l i ≡ none
    unfolding number_at is_number when
    first_large h = rw (large a (group_figure l i) first.held h, and-false)

    module _ (k b : ℕ) (second : Read l (j + 1) k b) where
      pub second_large : 65535 ≤ b → number_at l i ≡ none
      unfolding number_at is_number when
      second_large h = rw (← first.ends, large b (group_figure l (j + 1)) second.held h, and-false)

      pub yields : may_start l i ≡ true → char l j ≡ 46 → digit (char l (j + 1)) ≡ true → a < 65535 → b < 65535
          → number_at l i ≡ some (record { major = a; minor = b })
      unfolding number_at is_number when period small
      yields s p d h g =
          rw (← first.ends, ← exact a (group_figure l i) first.held h, ← exact b (group_figure l (j + 1)) second.held g)
          (rw (s, eq-eqb (char l j) 46 p, d, lt-ltb a 65535 h, lt-ltb b 65535 g))

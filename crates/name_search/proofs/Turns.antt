-- What a loop keeps that counts its looks: those so far and those to come are all of them. By any tests.
-- Assumes nothing.
use Prim.Native.Nat.{ℕ, zero, suc, ◌+◌, ◌-◌, ◌≤◌, ◌<◌}
use mathlib.Core.Path.{◌≡◌, refl}
use mathlib.Core.Bool.{Bool, true, false}
use native.Mathlib.Nat.{zero-add, sub-zero}
use native.Mathlib.Omega.{arith}
use Rattle.outcomes.proofs.Tests as tests
use Rattle.name_search.specs.Steps.{middle, turn, looks}

module _ (equal smaller : ℕ → Bool) where
  pub record Counted (n looked low high : ℕ) : Type 0 where
    pub total : looked + looks equal smaller (n - looked) low high ≡ looks equal smaller n 0 n
    pub room : high + looked ≤ n + low

  pub counted_start : (n : ℕ) → Counted n 0 0 n
  counted_start n = record { total = simp (zero-add, sub-zero); room = omega arith }

  none_left : (turns low high : ℕ) → high ≤ low → looks equal smaller turns low high ≡ 0
  unfolding looks turn
  none_left zero low high l = refl
  none_left (suc turns) low high l = simp ((tests.not_below low high).1 l)

  module _ {n looked low high : ℕ} (c : Counted n looked low high) where
    pub counted_end : high ≤ low → looked ≡ looks equal smaller n 0 n
    counted_end h = omega (arith, c.total, none_left (n - looked) low high h)

    module _ (l : low < high) where
      -- one turn is left at least
      left : looked + looks equal smaller (suc (n - (looked + 1))) low high ≡ looks equal smaller n 0 n
      left = let e : n - looked ≡ suc (n - (looked + 1)) = omega (arith, c.room) in rw (← e) c.total

      pub counted_found : equal (middle low high) ≡ true → looked + 1 ≡ looks equal smaller n 0 n
      unfolding looks turn
      counted_found e = omega (arith, rw ((tests.below low high).1 l, e) at left)

      pub counted_up : equal (middle low high) ≡ false → smaller (middle low high) ≡ true → Counted n (looked + 1) (middle low high + 1) high
      unfolding looks turn
      counted_up e s = record { total = omega (arith, rw ((tests.below low high).1 l, e, s) at left); room = omega (arith, c.room) }

      pub counted_down : equal (middle low high) ≡ false → smaller (middle low high) ≡ false → Counted n (looked + 1) low (middle low high)
      unfolding looks turn
      counted_down e s = record { total = omega (arith, rw ((tests.below low high).1 l, e, s) at left); room = omega (arith, c.room) }

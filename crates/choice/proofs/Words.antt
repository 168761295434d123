-- The library's words for what the definitions say.
-- Assumes nothing.
use Prim.Native.Nat.{ℕ, ◌-◌, min}
use mathlib.Core.Path.{◌≡◌, refl}
use mathlib.Core.Bool.{Bool, true, false, not, beq, cond}
use native.Mathlib.Omega.{arith}
use lib.Dec.{ltb}
use mir.Val.{bool_byte}
use borrow.Author.Tests.{ltb-true, ltb-false}
use Rattle.std.specs.Int.{abs_diff}
use Rattle.choice.specs.Ranks.{differ, gap, within16}

pub differ_said : (a b : Bool) → bool_byte (not (beq a b)) ≡ differ a b
unfolding differ
differ_said true true = refl
differ_said true false = refl
differ_said false true = refl
differ_said false false = refl

pub gap_said : (a b : ℕ) → abs_diff a b ≡ gap a b
unfolding gap
gap_said a b = at (ltb a b) refl
  where
    at : (t : Bool) → ltb a b ≡ t → abs_diff a b ≡ cond t (b - a) (a - b)
    at true e = omega (arith, ltb-true a b e)
    at false e = omega (arith, ltb-false a b e)

pub within_said : (n : ℕ) → min n 65535 ≡ within16 n
unfolding within16
within_said n = at (ltb 65535 n) refl
  where
    at : (t : Bool) → ltb 65535 n ≡ t → min n 65535 ≡ cond t 65535 n
    at true e = omega (arith, ltb-true 65535 n e)
    at false e = omega (arith, ltb-false 65535 n e)

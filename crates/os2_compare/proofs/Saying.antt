-- The words settle what a comparison answers: two answers that say the same are the same, since the `said` definition has an inverse.
-- Assumes nothing.
use Prim.Native.Nat.{ℕ}
use mathlib.Core.Path.{◌≡◌, refl, ap}
use mathlib.Core.Bool.{cond}
use lib.Dec.{eqb}
use Rattle.os2_acceptance.proofs.Saying.{once, why_of, why_back}
use Rattle.std.specs.Prelude.{Result, Ok, Err}
use Rattle.comparing.specs.Comparisons as side
use Rattle.comparing.specs.Comparisons.{Comparison, listed, refused}
use Rattle.os2_compare.specs.declared.Refusal.{Refusal}
use Rattle.os2_compare.specs.declared.Refusal.TheVariants.{LevelAbove, Left, Right, TooManyDifferences}
use Rattle.os2_compare.specs.Comparisons.{said_compared}

pub compared_once : (r s : Result ℕ Refusal) → said_compared r ≡ said_compared s → r ≡ s
compared_once = once said_compared hear back
  where
    hear : Comparison → Result ℕ Refusal
    hear (listed n) = Ok n
    hear (refused side.Neither r) = Err (cond (eqb r.number 1) LevelAbove TooManyDifferences)
    hear (refused side.Left r) = Err (Left (why_of r.number r.carried))
    hear (refused side.Right r) = Err (Right (why_of r.number r.carried))

    back : (r : Result ℕ Refusal) → hear (said_compared r) ≡ r
    back (Ok n) = refl
    back (Err LevelAbove) = refl
    back (Err (Left r)) = ap (λ x. Err (Left x)) (why_back r)
    back (Err (Right r)) = ap (λ x. Err (Right x)) (why_back r)
    back (Err TooManyDifferences) = refl

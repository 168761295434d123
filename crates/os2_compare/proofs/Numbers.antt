-- The refusals, the answers and the rows of the code, written out in document 01's and document 02's numbers: by computing.
-- Assumes nothing.
use Prim.Native.Nat.{ℕ}
use mathlib.Core.Path.{◌≡◌, refl}
use mathlib.Core.Option.{none, some}
use mathlib.Core.List.{List, [], ◌∷◌, map}
use lib.IntN.{ℤ, pos, negsuc}
use Rattle.outcomes.specs.Outcomes.{bare, carrying}
use Rattle.os2_rules.specs.declared.BrokenRule.TheVariants.{Regular, Sizes}
use Rattle.os2_acceptance.specs.declared.Refusal.TheVariants.{TooShort, RuleBroken}
use Rattle.os2_answers.specs.declared.Answer.TheVariants.{Value, Absent, NotKnown}
use Rattle.std.specs.Prelude.{Ok, Err}
use Rattle.comparing.specs.Comparisons as side
use Rattle.comparing.specs.Comparisons.{listed, refused}
use Rattle.os2_compare.specs.declared.Refusal.{Refusal}
use Rattle.os2_compare.specs.declared.Refusal.TheVariants.{LevelAbove, Left, Right, TooManyDifferences}
use Rattle.os2_compare.specs.Differences.{kind_of, figure_of, row_of}
use Rattle.os2_compare.specs.Comparisons.{said_refusal, said_compared}
use Rattle.os2_compare.specs.Examples.{row}

-- ---- the refusals

abbrev refusals : List Refusal
refusals =
    LevelAbove ∷ Left TooShort ∷ Left (RuleBroken Regular) ∷ Right TooShort ∷ Right (RuleBroken Sizes) ∷ TooManyDifferences ∷ []

pub numbers : map (λ r. (said_refusal r).refusal.number) refusals ≡ 1 ∷ 2 ∷ 3 ∷ 2 ∷ 3 ∷ 29 ∷ []
numbers = refl

pub sides : map (λ r. (said_refusal r).side) refusals ≡ side.Neither ∷ side.Left ∷ side.Left ∷ side.Right ∷ side.Right ∷ side.Neither ∷ []
sides = refl

pub carries : map (λ r. (said_refusal r).refusal.carried) refusals ≡ none ∷ none ∷ some 6 ∷ none ∷ some 7 ∷ none ∷ []
carries = refl

pub answers : map said_compared (Ok 7 ∷ Err LevelAbove ∷ Err (Right (RuleBroken Sizes)) ∷ []) ≡
    listed 7 ∷ refused side.Neither (bare 1) ∷ refused side.Right (carrying 3 7) ∷ []
answers = refl

-- ---- the rows

pub kinds : map kind_of (Value (pos 5) ∷ Absent ∷ NotKnown ∷ []) ≡ 1 ∷ 2 ∷ 3 ∷ []
kinds = refl

pub figures : map figure_of (Value (pos 5) ∷ Value (negsuc 4) ∷ Absent ∷ NotKnown ∷ []) ≡ pos 5 ∷ negsuc 4 ∷ pos 0 ∷ pos 0 ∷ []
figures = refl

pub row_numbers : map row_of (
    record { field = 39; left = Value (pos 5); right = Absent }
    ∷ record { field = 1; left = Value (negsuc 4); right = Value (pos 5) }
    ∷ record { field = 47; left = NotKnown; right = Value (pos 0) }
    ∷ []
    ) ≡
    row 39 1 (pos 5) 2 (pos 0) ∷ row 1 1 (negsuc 4) 1 (pos 5) ∷ row 47 3 (pos 0) 1 (pos 0) ∷ []
unfolding row_of
row_numbers = refl

-- a row has the field and the values as they are
pub row_is : (k : ℕ) (x y : ℤ) → row_of (record { field = k; left = Value x; right = Value y }) ≡ row k 1 x 1 y
unfolding row_of
row_is k x y = refl

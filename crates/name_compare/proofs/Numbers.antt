-- The refusals of a comparison, each with its side, its number and what it carries, and rows of differences, written out: by computing.
-- Assumes nothing.
use Prim.Native.Nat.{ℕ}
use mathlib.Core.Path.{◌≡◌, refl}
use mathlib.Core.Logic.{inl, inr}
use native.Mathlib.Omega.{arith}
use mathlib.Core.Option.{none, some}
use mathlib.Core.List.{List, [], ◌∷◌, map}
use Rattle.name.specs.declared.Refusal.TheVariants.{TooShort, UnknownFormat, RecordsPastEnd, TagsPastEnd, StorageMisplaced}
use Rattle.name.specs.declared.Refusal.TheVariants.{StringBeyond, TagString, KeyBelow, LanguageRefused, KeyEqual, StringRunsOver}
use Rattle.outcomes.specs.Outcomes.{bare, carrying}
use Rattle.name_layout.specs.Keys.{key_from}
use Rattle.std.specs.Prelude.{Ok, Err}
use Rattle.comparing.specs.Comparisons as side
use Rattle.comparing.specs.Comparisons.{listed, refused}
use Rattle.name_compare.specs.declared.Refusal.{Refusal}
use Rattle.name_compare.specs.declared.Refusal.TheVariants.{Left, Right, TooManyDifferences}
use Rattle.name_compare.specs.Differences.{Difference, left_only, right_only, both_other, key_numbered, row_of}
use Rattle.name_compare.specs.Comparisons.{said_refusal, said_compared}
use Rattle.name_compare.specs.Settled.{DifferenceBelow}

abbrev refusals : List Refusal
refusals =
    Left TooShort ∷ Right UnknownFormat ∷ Left RecordsPastEnd ∷ Right TagsPastEnd ∷ Left StorageMisplaced ∷ Right (StringBeyond 21) ∷ Left (TagString 22)
    ∷ Right (KeyBelow 23) ∷ Left (LanguageRefused 24) ∷ Right (KeyEqual 25) ∷ Left (StringRunsOver 26) ∷ TooManyDifferences ∷ []

pub sides : map (λ r. (said_refusal r).side) refusals
    ≡ side.Left ∷ side.Right ∷ side.Left ∷ side.Right ∷ side.Left ∷ side.Right ∷ side.Left ∷ side.Right ∷ side.Left ∷ side.Right ∷ side.Left
    ∷ side.Neither ∷ []
sides = refl

pub numbers : map (λ r. (said_refusal r).refusal.number) refusals ≡ 10 ∷ 11 ∷ 12 ∷ 13 ∷ 14 ∷ 15 ∷ 16 ∷ 17 ∷ 18 ∷ 19 ∷ 27 ∷ 29 ∷ []
numbers = refl

pub carries : map (λ r. (said_refusal r).refusal.carried) refusals
    ≡ none ∷ none ∷ none ∷ none ∷ none ∷ some 21 ∷ some 22 ∷ some 23 ∷ some 24 ∷ some 25 ∷ some 26 ∷ none ∷ []
carries = refl

pub answers : map said_compared (Ok 7 ∷ Err (Left (KeyBelow 1)) ∷ Err (Right UnknownFormat) ∷ Err TooManyDifferences ∷ [])
    ≡ listed 7 ∷ refused side.Left (carrying 17 1) ∷ refused side.Right (bare 11) ∷ refused side.Neither (bare 29) ∷ []
answers = refl

abbrev differing : List Difference
differing =
    record { key = key_from 1 2 3 4; which = left_only }
    ∷ record { key = key_from 65535 1 1033 65534; which = right_only }
    ∷ record { key = key_numbered 281483566841860; which = both_other }
    ∷ []

pub rows : map row_of differing ≡ (1 ∷ 2 ∷ 3 ∷ 4 ∷ 1 ∷ []) ∷ (65535 ∷ 1 ∷ 1033 ∷ 65534 ∷ 2 ∷ []) ∷ (1 ∷ 2 ∷ 3 ∷ 4 ∷ 3 ∷ []) ∷ []
unfolding row_of key_numbered
rows = refl

-- a row is the key's four numbers as they are, and which of the three it is
pub row_is : (p e l n w : ℕ) → row_of (record { key = key_from p e l n; which = w }) ≡ p ∷ e ∷ l ∷ n ∷ w ∷ []
unfolding row_of
row_is p e l n w = refl

-- the order of rows is that of keys, by the first number in which two differ
pub in_order : (w : ℕ) → DifferenceBelow (record { key = key_from 1 9 9 9; which = w }) (record { key = key_from 3 0 0 0; which = w })
    × DifferenceBelow (record { key = key_from 1 0 0 1; which = w }) (record { key = key_from 1 0 0 2; which = w })
in_order w = (inl (omega arith), inr (refl, inr (refl, inr (refl, omega arith))))

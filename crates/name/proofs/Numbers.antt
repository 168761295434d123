-- The refusals of the code, each with its number and what it carries, written out as document 01's table and Ask 3 have them: by computing.
-- Assumes nothing.
use mathlib.Core.Path.{◌≡◌, refl}
use mathlib.Core.Option.{none, some}
use mathlib.Core.List.{List, [], ◌∷◌, map}
use Rattle.name.specs.declared.Refusal.{Refusal}
use Rattle.name.specs.declared.Refusal.TheVariants.{TooShort, UnknownFormat, RecordsPastEnd, TagsPastEnd, StorageMisplaced}
use Rattle.name.specs.declared.Refusal.TheVariants.{StringBeyond, TagString, KeyBelow, LanguageRefused, KeyEqual, StringRunsOver}
use Rattle.name.specs.Refusals.{said_refusal}

abbrev refusals : List Refusal
refusals =
    TooShort ∷ UnknownFormat ∷ RecordsPastEnd ∷ TagsPastEnd ∷ StorageMisplaced
    ∷ StringBeyond 21 ∷ TagString 22 ∷ KeyBelow 23 ∷ LanguageRefused 24 ∷ KeyEqual 25 ∷ StringRunsOver 26 ∷ []

pub numbers : map (λ r. (said_refusal r).number) refusals ≡ 10 ∷ 11 ∷ 12 ∷ 13 ∷ 14 ∷ 15 ∷ 16 ∷ 17 ∷ 18 ∷ 19 ∷ 27 ∷ []
numbers = refl

pub carries : map (λ r. (said_refusal r).carried) refusals ≡ none ∷ none ∷ none ∷ none ∷ none ∷ some 21 ∷ some 22 ∷ some 23 ∷ some 24 ∷ some 25 ∷ some 26 ∷ []
carries = refl

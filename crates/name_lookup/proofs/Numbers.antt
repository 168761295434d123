-- The refusals of a lookup, each with its number and what it carries, written out as document 01's table and Ask 3 have them: by computing.
-- Assumes nothing.
use mathlib.Core.Path.{◌≡◌, refl}
use mathlib.Core.Option.{none, some}
use mathlib.Core.List.{List, [], ◌∷◌, map}
use Rattle.name.specs.declared.Refusal.TheVariants.{TooShort, UnknownFormat, RecordsPastEnd, TagsPastEnd, StorageMisplaced}
use Rattle.name.specs.declared.Refusal.TheVariants.{StringBeyond, TagString, KeyBelow, LanguageRefused, KeyEqual, StringRunsOver}
use Rattle.name_lookup.specs.declared.LookupRefusal.{LookupRefusal}
use Rattle.name_lookup.specs.declared.LookupRefusal.TheVariants.{Table, NoRecord}
use Rattle.name_lookup.specs.Answers.{said_lookup_refusal}

abbrev refusals : List LookupRefusal
refusals =
    Table TooShort ∷ Table UnknownFormat ∷ Table RecordsPastEnd ∷ Table TagsPastEnd ∷ Table StorageMisplaced
    ∷ Table (StringBeyond 21) ∷ Table (TagString 22) ∷ Table (KeyBelow 23) ∷ Table (LanguageRefused 24) ∷ Table (KeyEqual 25) ∷ Table (StringRunsOver 26)
    ∷ NoRecord ∷ []

pub numbers : map (λ r. (said_lookup_refusal r).number) refusals ≡ 10 ∷ 11 ∷ 12 ∷ 13 ∷ 14 ∷ 15 ∷ 16 ∷ 17 ∷ 18 ∷ 19 ∷ 27 ∷ 20 ∷ []
numbers = refl

pub carries : map (λ r. (said_lookup_refusal r).carried) refusals ≡ none ∷ none ∷ none ∷ none ∷ none ∷ some 21 ∷ some 22 ∷ some 23 ∷ some 24 ∷ some 25 ∷ some 26 ∷ none ∷ []
carries = refl

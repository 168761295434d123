-- The refusals of the two questions, each with its number and what it carries, written out as document 01's table and Ask 3 have them: by computing.
-- Assumes nothing.
use Prim.Native.Nat.{ℕ}
use mathlib.Core.Path.{◌≡◌, refl}
use mathlib.Core.Option.{Option, none, some}
use mathlib.Core.List.{List, [], ◌∷◌, map}
use Rattle.outcomes.specs.Outcomes.{answered}
use Rattle.name.specs.declared.Refusal.TheVariants.{TooShort, UnknownFormat, RecordsPastEnd, TagsPastEnd, StorageMisplaced}
use Rattle.name.specs.declared.Refusal.TheVariants.{StringBeyond, TagString, KeyBelow, LanguageRefused, KeyEqual, StringRunsOver}
use Rattle.name.specs.declared.Refusal.{Refusal}
use Rattle.name_answers.specs.declared.PostscriptRefusal.{PostscriptRefusal}
use Rattle.name_answers.specs.declared.PostscriptRefusal.TheVariants as Postscript·
use Rattle.name_answers.specs.declared.VersionRefusal.{VersionRefusal}
use Rattle.name_answers.specs.declared.VersionRefusal.TheVariants as Version·
use Rattle.std.specs.Prelude.{Ok}
use Rattle.name_answers.specs.Names.{said_name_refusal}
use Rattle.name_answers.specs.Versions.{said_version_refusal, said_version}

-- the table's own, 10 to 19 and 27, are passed on with what they carry
abbrev tables : List Refusal
tables =
    TooShort ∷ UnknownFormat ∷ RecordsPastEnd ∷ TagsPastEnd ∷ StorageMisplaced
    ∷ StringBeyond 21 ∷ TagString 22 ∷ KeyBelow 23 ∷ LanguageRefused 24 ∷ KeyEqual 25 ∷ StringRunsOver 26 ∷ []

abbrev table_numbers : List ℕ
table_numbers = 10 ∷ 11 ∷ 12 ∷ 13 ∷ 14 ∷ 15 ∷ 16 ∷ 17 ∷ 18 ∷ 19 ∷ 27 ∷ []

abbrev table_carries : List (Option ℕ)
table_carries = none ∷ none ∷ none ∷ none ∷ none ∷ some 21 ∷ some 22 ∷ some 23 ∷ some 24 ∷ some 25 ∷ some 26 ∷ []

pub name_table_numbers : map (λ r. (said_name_refusal (Postscript·.Table r)).number) tables ≡ table_numbers
name_table_numbers = refl

pub name_table_carries : map (λ r. (said_name_refusal (Postscript·.Table r)).carried) tables ≡ table_carries
name_table_carries = refl

pub version_table_numbers : map (λ r. (said_version_refusal (Version·.Table r)).number) tables ≡ table_numbers
version_table_numbers = refl

pub version_table_carries : map (λ r. (said_version_refusal (Version·.Table r)).carried) tables ≡ table_carries
version_table_carries = refl

-- 21 to 24, and 20 and 25, which carry nothing
abbrev names : List PostscriptRefusal
names = Postscript·.NoRecord ∷ Postscript·.OneRecord ∷ Postscript·.IllFormed ∷ Postscript·.Different ∷ []

pub name_numbers : map (λ r. (said_name_refusal r).number) names ≡ 21 ∷ 22 ∷ 23 ∷ 24 ∷ []
name_numbers = refl

pub name_carries : map (λ r. (said_name_refusal r).carried) names ≡ none ∷ none ∷ none ∷ none ∷ []
name_carries = refl

abbrev versions : List VersionRefusal
versions = Version·.NoRecord ∷ Version·.NoNumber ∷ []

pub version_numbers : map (λ r. (said_version_refusal r).number) versions ≡ 20 ∷ 25 ∷ []
version_numbers = refl

pub version_carries : map (λ r. (said_version_refusal r).carried) versions ≡ none ∷ none ∷ []
version_carries = refl

pub version_said : (a b i : ℕ) → said_version (Ok (record { major = a; minor = b; «record» = i })) ≡ answered (record { major = a; minor = b; «record» = i })
version_said a b i = refl

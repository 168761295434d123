-- Of any reader of a table: what the version question answers, and exactly when, in plain propositions on the bytes.
use Rattle.std.specs.Prelude.{ℕ, ◌≡◌, Bool, true, false, List, ◌↔◌, ◌⊎◌}
use Rattle.std.proofs.Math.Option.{none}
use Rattle.bigendian.specs.Numbers.{Bytes}
use Rattle.characters.specs.Strings.{characters}
use Rattle.outcomes.specs.Outcomes.{Refusal, Outcome, refused, answered, refusing}
use Rattle.name_layout.specs.Layout.{bytes_of}
use Rattle.name_layout.specs.Keys.{key_from}
use Rattle.name.specs.Refusing.{Refused}
use Rattle.name.specs.Acceptable.{Acceptable}
use Rattle.name_search.specs.Searches.{HasKey}
use Rattle.version_text.specs.Qualifying.{Odd, First, Qualifies}
use Rattle.name_answers.specs.Versions.{Reading}
use Rattle.name_answers.specs.ExactNames.{Some, None}

-- the two records that count
abbrev pub Wide : List ℕ → ℕ → Type 0
Wide t i = HasKey t (key_from 3 1 1033 5) i

abbrev pub Narrow : List ℕ → ℕ → Type 0
Narrow t i = HasKey t (key_from 1 0 0 5) i

-- record i is the one that is read: (3, 1, 0x409, 5), two bytes a character; "only if that is not there, (1, 0, 0, 5)", one byte
abbrev pub Chosen : List ℕ → Bool → ℕ → Type 0
Chosen t true i = Wide t i
Chosen t false i = None (Wide t) × Narrow t i

-- the table is accepted, record i is read, and so much holds of its string
pub record WithString (t : List ℕ) (i : ℕ) (P : Bool → List ℕ → Type 0) : Type 0 where
  pub accepted : Acceptable t
  pub wide : Bool
  pub chosen : Chosen t wide i
  pub holds : P wide (bytes_of t i)

-- record i is read, and in its string the number a and b stands at the first start that qualifies; the length of a two-byte string isn't odd
abbrev pub HasNumber : List ℕ → ℕ → ℕ → ℕ → Type 0
HasNumber t a b i = WithString t i (λ wide bytes. (Odd wide bytes → ⊥) × First (characters wide bytes) a b)

-- 20: neither key
abbrev pub NoVersion : List ℕ → Type 0
NoVersion t = Acceptable t × None (Wide t) × None (Narrow t)

-- 25: "no version number in the string", or a two-byte string of odd length
abbrev pub LacksNumber : List ℕ → Type 0
LacksNumber t = Some (λ i. WithString t i (λ wide bytes. Odd wide bytes ⊎ ((j a b : ℕ) → Qualifies (characters wide bytes) j a b → ⊥)))

-- a reader answers a number, with the record that it used, and each refusal exactly when documents 01 and 02 do
pub record VersionRight (read : List ℕ → Outcome Reading) : Type 0 where
  pub passes_on : (t : List ℕ) (r : Refusal) → Refused t r → read t ≡ refusing r
  pub number : (t : List ℕ) → Bytes t → (a b i : ℕ) → (read t ≡ answered (record { major = a; minor = b; «record» = i })) ↔ HasNumber t a b i
  pub neither : (t : List ℕ) → Bytes t → (read t ≡ refused 20 none) ↔ NoVersion t
  pub lacks : (t : List ℕ) → Bytes t → (read t ≡ refused 25 none) ↔ LacksNumber t

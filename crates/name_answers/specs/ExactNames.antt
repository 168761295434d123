-- Of any reader of a table: what the PostScript question answers, and exactly when, in plain propositions on the bytes.
use Rattle.std.specs.Prelude.{ℕ, ◌≡◌, true, false, List, ◌↔◌, ◌⊎◌}
use Rattle.std.proofs.Math.Option.{none}
use Rattle.bigendian.specs.Numbers.{Bytes}
use Rattle.characters.specs.Strings.{characters}
use Rattle.outcomes.specs.Outcomes.{Refusal, Outcome, refused, answered, refusing}
use Rattle.name_layout.specs.Layout.{bytes_of}
use Rattle.name_layout.specs.Keys.{key_from}
use Rattle.name.specs.Refusing.{Refused}
use Rattle.name.specs.Acceptable.{Acceptable}
use Rattle.name_search.specs.declared.Text.{Text}
use Rattle.name_search.specs.Searches.{HasKey, StringOf, HasBytes}
use Rattle.name_answers.specs.WellFormed.{WellFormed}

-- the two records that count
abbrev pub First : List ℕ → ℕ → Type 0
First t i = HasKey t (key_from 1 0 0 6) i

abbrev pub Second : List ℕ → ℕ → Type 0
Second t j = HasKey t (key_from 3 1 1033 6) j

-- a record is so, or none is
abbrev pub Some : (ℕ → Type 0) → Type 0
Some P = (i : ℕ) × P i

abbrev pub None : (ℕ → Type 0) → Type 0
None P = (i : ℕ) → P i → ⊥

-- the table is accepted, both records are there, and so much holds of them
pub record WithBoth (t : List ℕ) (P : ℕ → ℕ → Type 0) : Type 0 where
  pub accepted : Acceptable t
  pub i : ℕ
  pub j : ℕ
  pub first : First t i
  pub second : Second t j
  pub holds : P i j

-- both strings are well formed
abbrev pub Formed : List ℕ → ℕ → ℕ → Type 0
Formed t i j = WellFormed false (bytes_of t i) × WellFormed true (bytes_of t j)

-- they have the same characters
abbrev pub Same : List ℕ → ℕ → ℕ → Type 0
Same t i j = characters false (bytes_of t i) ≡ characters true (bytes_of t j)

-- "The answer is the first string's start and length"; document 02, Ask 4: with "the number of the record that they used (for a PostScript name, the
-- platform 1 record)"
abbrev pub Named : List ℕ → Text → Type 0
Named t x = WithBoth t (λ i j. Formed t i j × Same t i j × StringOf t i x)

-- 21: "neither PostScript record present"
abbrev pub Neither : List ℕ → Type 0
Neither t = Acceptable t × None (First t) × None (Second t)

-- 22: "exactly one present"
abbrev pub ExactlyOne : List ℕ → Type 0
ExactlyOne t = Acceptable t × ((Some (First t) × None (Second t)) ⊎ (None (First t) × Some (Second t)))

-- 23: "a PostScript string is ill-formed"
abbrev pub NotFormed : List ℕ → Type 0
NotFormed t = WithBoth t (λ i j. Formed t i j → ⊥)

-- 24: "the two differ"
abbrev pub Unlike : List ℕ → Type 0
Unlike t = WithBoth t (λ i j. Formed t i j × (Same t i j → ⊥))

-- a reader answers a name, with the record that it used, and each refusal exactly when documents 01 and 02 do
pub record PostscriptRight (read : List ℕ → Outcome Text) : Type 0 where
  pub passes_on : (t : List ℕ) (r : Refusal) → Refused t r → read t ≡ refusing r
  pub named : (t : List ℕ) → Bytes t → (x : Text) → (read t ≡ answered x) ↔ Named t x
  pub neither : (t : List ℕ) → Bytes t → (read t ≡ refused 21 none) ↔ Neither t
  pub exactly_one : (t : List ℕ) → Bytes t → (read t ≡ refused 22 none) ↔ ExactlyOne t
  pub not_formed : (t : List ℕ) → Bytes t → (read t ≡ refused 23 none) ↔ NotFormed t
  pub unlike : (t : List ℕ) → Bytes t → (read t ≡ refused 24 none) ↔ Unlike t

-- a name's bytes: the record of its number is the platform 1 record, and its bytes are that record's
abbrev pub GivesItsBytes : (List ℕ → Outcome Text) → Type 0
GivesItsBytes read =
    (t : List ℕ) → Bytes t → (x : Text) → read t ≡ answered x →
    First t x.«record» × HasBytes t x

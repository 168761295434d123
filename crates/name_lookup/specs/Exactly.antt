-- "found by its four numbers exactly when a record has them", and which record that is, of any lookup by any four numbers, in plain propositions.
use Rattle.std.specs.Prelude.{ℕ, ◌≡◌, ◌↔◌, List}
use Rattle.std.proofs.Math.Option.{none}
use Rattle.bigendian.specs.Numbers.{Bytes}
use Rattle.outcomes.specs.Outcomes.{Refusal, Outcome, refused, answered, refusing}
use Rattle.name_layout.specs.Keys.{Key}
use Rattle.name.specs.Acceptable.{Acceptable}
use Rattle.name.specs.Refusing.{Refused}
use Rattle.name_search.specs.declared.Text.{Text}
use Rattle.name_search.specs.Searches.{HasKey, StringOf, HasBytes}

-- it answers a string exactly when the table is accepted and a record has the four numbers, and the string is that record's, with its number
abbrev pub FoundExactlyWhen : (List ℕ → Key → Outcome Text) → Type 0
FoundExactlyWhen lookup =
    (t : List ℕ) → Bytes t → (k : Key) (x : Text) →
    (lookup t k ≡ answered x) ↔ (Acceptable t × ((i : ℕ) × HasKey t k i × StringOf t i x))

-- it answers 20 exactly when the table is accepted and no record has them
abbrev pub MissingExactlyWhen : (List ℕ → Key → Outcome Text) → Type 0
MissingExactlyWhen lookup =
    (t : List ℕ) → Bytes t → (k : Key) → (lookup t k ≡ refused 20 none) ↔ (Acceptable t × ((i : ℕ) → HasKey t k i → ⊥))

-- a refused table's own refusal is passed on
abbrev pub PassesOn : (List ℕ → Key → Outcome Text) → Type 0
PassesOn lookup = (t : List ℕ) (k : Key) (r : Refusal) → Refused t r → lookup t k ≡ refusing r

-- all that is right for a lookup
pub record LookupRight (lookup : List ℕ → Key → Outcome Text) : Type 0 where
  pub refused : PassesOn lookup
  pub found : FoundExactlyWhen lookup
  pub missing : MissingExactlyWhen lookup

-- "is that record's bytes": the record of its number has the key, and its bytes are that record's
abbrev pub GivesItsBytes : (List ℕ → Key → Outcome Text) → Type 0
GivesItsBytes lookup =
    (t : List ℕ) → Bytes t → (k : Key) (x : Text) → lookup t k ≡ answered x →
    HasKey t k x.«record» × HasBytes t x

-- Document 01, "PostScript name and version number": what its rules say of any reader of version strings, as propositions on the characters.
use Rattle.std.specs.Prelude.{ℕ, ◌+◌, ◌-◌, ◌*◌, ◌%◌, ◌<◌, ◌≤◌, ◌≡◌, Bool, true, List, ◌↔◌, ◌⊎◌, length, get_or}
use Rattle.std.proofs.Math.Option.{none}
use Rattle.outcomes.specs.Outcomes.{Outcome, refused, answered}
use Rattle.characters.specs.Digits.{Digit}
use Rattle.characters.specs.Strings.{characters, char}
use Rattle.version_text.specs.Versions.{figure, Figures}

-- the characters from i to before j are digits, at least one and as long as they go, and their figure is a, below 65,535
pub record Group (l : List ℕ) (i j a : ℕ) : Type 0 where
  pub some : i < j
  pub digits : (m : ℕ) → i ≤ m → m < j → Digit (char l m)
  pub ends : Digit (char l j) → ⊥
  pub reads : figure l i (j - i) ≡ a
  pub below : a < 65535

-- a number starts at i: digits that don't follow a digit, a period, digits
pub record Qualifies (l : List ℕ) (i a b : ℕ) : Type 0 where
  pub j : ℕ
  pub k : ℕ
  pub first : Group l i j a
  pub period : char l j ≡ 46
  pub second : Group l (j + 1) k b
  pub alone : 0 < i → Digit (char l (i - 1)) → ⊥

-- the first start, from the left, that qualifies
pub record First (l : List ℕ) (a b : ℕ) : Type 0 where
  pub start : ℕ
  pub here : Qualifies l start a b
  pub least : (i x y : ℕ) → i < start → Qualifies l i x y → ⊥

-- a two-byte string of odd length
abbrev pub Odd : Bool → List ℕ → Type 0
Odd wide bytes = (wide ≡ true) × (length bytes % 2 ≡ 1)

-- a reader answers a number exactly where it stands at the first start that qualifies, and 25 exactly where none does or the length is odd
pub record Right (read : Bool → List ℕ → Outcome Figures) : Type 0 where
  pub found : (wide : Bool) (bytes : List ℕ) (a b : ℕ)
      → (read wide bytes ≡ answered (record { major = a; minor = b })) ↔ ((Odd wide bytes → ⊥) × First (characters wide bytes) a b)
  pub missing : (wide : Bool) (bytes : List ℕ)
      → (read wide bytes ≡ refused 25 none) ↔ (Odd wide bytes ⊎ ((i a b : ℕ) → Qualifies (characters wide bytes) i a b → ⊥))

-- "a two-byte character is a digit or period only if its high byte is 0"
abbrev pub HighByteZero : Type 0
HighByteZero = (bytes : List ℕ) (i : ℕ)
    → Digit (char (characters true bytes) i) ⊎ (char (characters true bytes) i ≡ 46) → get_or bytes (i * 2) 0 ≡ 0

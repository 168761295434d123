-- Document 01, "PostScript name and version number": the characters of a PostScript name, as a test and as a proposition.
use Rattle.std.specs.Prelude.{ℕ, zero, suc, ◌+◌, ◌≤◌, ◌≡◌, Bool, false, cond, not, ◌&&◌, ◌||◌, List, [], ◌∷◌, leb, eqb}
use Rattle.characters.specs.Texts.{codes}

-- the ten that are left out
abbrev pub reserved : List ℕ
reserved = codes "[](){}<>/%"

-- whether a code is one of a list
abbrev pub one_of : List ℕ → ℕ → Bool
one_of [] c = false
one_of (x ∷ xs) c = eqb c x || one_of xs c

-- "codes 33 to 126 without [ ] ( ) { } < > / %"
unfoldable pub allowed : ℕ → Bool
allowed c = leb 33 c && leb c 126 && not (one_of reserved c)

-- how many of the codes below a number are allowed
unfoldable pub allowed_below : ℕ → ℕ
allowed_below zero = 0
allowed_below (suc n) = cond (allowed n) 1 0 + allowed_below n

-- a code is none of a list
abbrev pub NoneOf : List ℕ → ℕ → Type 0
NoneOf [] c = Unit
NoneOf (x ∷ xs) c = (c ≡ x → ⊥) × NoneOf xs c

-- what the test decides, as a proposition
pub record Allowed (c : ℕ) : Type 0 where
  pub least : 33 ≤ c
  pub most : c ≤ 126
  pub other : NoneOf reserved c

-- The choice as tests, in the order of document 02, Ask 7; and in the code as one number.
use Rattle.std.specs.Prelude.{ℕ, zero, suc, ◌+◌, ◌-◌, ◌*◌, ◌<◌, ◌≡◌, Bool, true, false, cond, ◌&&◌, ◌||◌, List, [], ◌∷◌, ltb, eqb}
use Rattle.std.proofs.Math.Option.{Option, none, some}
use Rattle.outcomes.specs.Outcomes.{Outcome, bare, answered, found_or}
use Rattle.same_bytes.specs.Same.{same}
use Rattle.choice.specs.declared.Want.{Want}
use Rattle.choice.specs.Faces.{Face, Slots}

-- a face in its slot
pub record Placed : Type 0 where
  pub slot : ℕ
  pub face : Face

-- 0 where the slope matches, and else 1
unfoldable pub differ : Bool → Bool → ℕ
differ true true = 0
differ true false = 1
differ false true = 1
differ false false = 0

-- the difference of two whole numbers
unfoldable pub gap : ℕ → ℕ → ℕ
gap a b = cond (ltb a b) (b - a) (a - b)

-- "matching slope first, then the smallest width difference, then the smallest weight difference, then the lower weight, then the lower slot": the numbers in that order
unfoldable pub numbers_of : Want → Placed → List ℕ
numbers_of w p =
    differ w.sloped p.face.sloped ∷ gap w.width p.face.width ∷ gap w.weight p.face.weight ∷ p.face.weight ∷ p.slot ∷ []

-- the first number that differs decides
unfoldable pub below : List ℕ → List ℕ → Bool
below [] y = false
below (a ∷ x) [] = false
below (a ∷ x) (b ∷ y) = ltb a b || (eqb a b && below x y)

-- p comes before q
unfoldable pub before : Want → Placed → Placed → Bool
before w p q = below (numbers_of w p) (numbers_of w q)

-- the face of a slot, if it holds one "with exactly that family"
unfoldable pub of_family : List ℕ → ℕ → Option Face → Option Placed
of_family family i none = none
of_family family i (some f) = cond (same f.family family) (some (record { slot = i; face = f })) none

-- the one of two that comes first
unfoldable pub earlier : Want → Option Placed → Option Placed → Option Placed
earlier w none q = q
earlier w (some p) none = some p
earlier w (some p) (some q) = cond (before w q p) (some q) (some p)

-- the first of slots 0, 1, .., n - 1 in that order
unfoldable pub best : Slots → List ℕ → Want → ℕ → Option Placed
best m family w zero = none
best m family w (suc n) = earlier w (best m family w n) (of_family family n (m n))

-- 50, or else the slot that is chosen among the 32
unfoldable pub request_of : Slots → List ℕ → Want → Outcome ℕ
request_of m family w = found_or (bare 50) (best m family w 32) (λ p. answered p.slot)

-- ---- in the code: one number, of which the five are the digits, and the lowest is the choice

-- a wanted number above all of 16 bits is as far from each as 65,535 is, but for the same distance more
unfoldable pub within16 : ℕ → ℕ
within16 wanted = cond (ltb 65535 wanted) 65535 wanted

-- the rank of a face in a slot, whose weight and width have 16 bits
unfoldable pub rank : Want → ℕ → (weight width : ℕ) → Bool → ℕ
rank w i weight width sloped =
    (((differ w.sloped sloped * 65536 + gap (within16 w.width) width) * 65536 + gap (within16 w.weight) weight) * 65536 + weight) * 32 + i

-- what no rank reaches, 2 to the 54th
abbrev pub no_rank : ℕ
no_rank = 18014398509481984

-- a face of 16-bit numbers in one of the 32 slots, and its rank
pub record Small (p : Placed) : Type 0 where
  pub slot : p.slot < 32
  pub weight : p.face.weight < 65536
  pub width : p.face.width < 65536

abbrev pub rank_of : Want → Placed → ℕ
rank_of w p = rank w p.slot p.face.weight p.face.width p.face.sloped

-- x stands for a face, or for none
abbrev pub Stands : Want → ℕ → Option Placed → Type 0
Stands w x none = x ≡ no_rank
Stands w x (some p) = (x ≡ rank_of w p) × Small p

-- the lower of two
abbrev pub lower : ℕ → ℕ → ℕ
lower a b = cond (ltb b a) b a

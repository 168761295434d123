-- The number of looks is that of the steps and no other; and of any keys the steps are bounded: each look leaves at most half. Nothing here knows a table.
-- Assumes nothing.
use Prim.Native.Nat.{ℕ, zero, suc, ◌+◌, ◌-◌, ◌*◌, ◌^◌, ◌≤◌, ◌<◌}
use mathlib.Core.Path.{◌≡◌, refl, ap}
use mathlib.Core.Logic.{◌⊎◌, inl, inr, ⊎_elim, ◌↔◌}
use mathlib.Core.Bool.{Bool, true, false}
use native.Mathlib.Nat.{pow-suc}
use native.Mathlib.Decide.{dec_lt}
use native.Mathlib.Omega.{arith}
use Rattle.outcomes.proofs.Tests as tests
use Rattle.name_layout.specs.Keys.{Key, same, below}
use Rattle.name_layout.proofs.Keys.{same_is, below_is, above_is, key_irreflexive}
use Rattle.name_search.specs.Steps.{HalfOf, Steps, meets, ends, moves_low, moves_high, middle, turn, looks, looks_among}

half_of : (low high : ℕ) → HalfOf (low + high) (middle low high)
half_of low high = by (dec_lt (middle low high + middle low high) (low + high))
  where
    by : Dec (middle low high + middle low high < low + high) → HalfOf (low + high) (middle low high)
    by (yes l) = inr (omega arith)
    by (no l) = inl (omega arith)

-- there is one half
half_is : (low high m : ℕ) → HalfOf (low + high) m → m ≡ middle low high
half_is low high m h = ⊎_elim (λ e. omega arith) (λ e. omega arith) h

module _ (key : ℕ → Key) (k : Key) where
  abbrev looked : ℕ → ℕ → ℕ → ℕ
  looked turns low high = looks (λ i. same (key i) k) (λ i. below (key i) k) turns low high

  -- ---- the number is that of the steps

  one_turn : (turns low high : ℕ) → low ≤ high
      → (low < high → Steps key k (middle low high + 1) high (looked turns (middle low high + 1) high))
      → (low < high → Steps key k low (middle low high) (looked turns low (middle low high)))
      → Steps key k low high (looked (suc turns) low high)
  unfolding looks turn
  one_turn turns low high l up down = by (dec_lt low high)
    where
      at : low < high → (e s : Bool) → same (key (middle low high)) k ≡ e → below (key (middle low high)) k ≡ s → Steps key k low high (looked (suc turns) low high)
      at c true s p q = rw ((tests.below low high).1 c, p) (ends c (half_of low high) ((same_is _ k).0 p))
      at c false true p q = rw ((tests.below low high).1 c, p, q) (moves_low c (half_of low high) ((below_is _ k).0 q) (up c))
      at c false false p q = rw ((tests.below low high).1 c, p, q) (moves_high c (half_of low high) ((above_is k _).0 (q, p)) (down c))

      by : Dec (low < high) → Steps key k low high (looked (suc turns) low high)
      by (yes c) = at c _ _ refl refl
      by (no c) = let e : low ≡ high = omega arith in rw ((tests.not_below low high).1 (omega arith)) (meets e)

  settles : (turns low high : ℕ) → low ≤ high → high ≤ low + turns → Steps key k low high (looked turns low high)
  unfolding looks turn
  settles zero low high l h = let e : low ≡ high = omega arith in meets e
  settles (suc turns) low high l h =
      one_turn turns low high l
      (λ c. settles turns (middle low high + 1) high (omega arith) (omega arith))
      (λ c. settles turns low (middle low high) (omega arith) (omega arith))

  settled_is : (turns : ℕ) {low high n : ℕ} → high ≤ low + turns → Steps key k low high n → n ≡ looked turns low high
  unfolding looks turn
  settled_is zero h (meets e) = refl
  settled_is (suc turns) {low} {high} h (meets e) = rw ((tests.not_below low high).1 (omega arith)) refl
  settled_is zero h (ends l m e) = absurd (omega arith)
  settled_is (suc turns) {low} {high} h (ends l m e) = rw ((tests.below low high).1 l, (same_is _ k).1 (rw (half_is low high _ m) at e)) refl
  settled_is zero h (moves_low l m b s) = absurd (omega arith)
  settled_is (suc turns) {low} {high} h (moves_low l m b s) =
      let z = half_is low high _ m in
      let c = rw z at b in
      rw ((tests.below low high).1 l, (tests.fails _ (same_is _ k)).1 (λ e. key_irreflexive e c), (below_is _ k).1 c)
      (ap (λ x. x + 1) (settled_is turns (omega arith) (rw z at s)))
  settled_is zero h (moves_high l m b s) = absurd (omega arith)
  settled_is (suc turns) {low} {high} h (moves_high l m b s) =
      let z = half_is low high _ m in
      let c = (above_is k _).1 (rw z at b) in
      rw ((tests.below low high).1 l, c.1, c.0) (ap (λ x. x + 1) (settled_is turns (omega arith) (rw z at s)))

  pub looks_exactly : (count n : ℕ) → (n ≡ looks_among key k count) ↔ Steps key k 0 count n
  looks_exactly count n = (λ e. rw e (settles count 0 count (omega arith) (omega arith)), settled_is count (omega arith))

  -- ---- what bounds them

  -- one look more, with at most half left
  twice : {n : ℕ} (part whole : ℕ) → (n ≡ 0) ⊎ (2 ^ n ≤ 2 * part) → 2 * part ≤ whole → 0 < whole → 2 ^ (n + 1) ≤ 2 * whole
  twice part whole (inl e) p q = rw e (omega arith)
  twice {n} part whole (inr h) p q = let e : n + 1 ≡ suc n = omega arith in rw e (omega (arith, pow-suc 2 n))

  bounds : {low high n : ℕ} → Steps key k low high n → (n ≡ 0) ⊎ (2 ^ n ≤ 2 * (high - low))
  bounds (meets e) = inl refl
  bounds (ends l m e) = inr (omega arith)
  bounds {low} {high} (moves_low l m b s) = inr (twice _ _ (bounds s) (omega (arith, half_is low high _ m)) (omega arith))
  bounds {low} {high} (moves_high l m b s) = inr (twice _ _ (bounds s) (omega (arith, half_is low high _ m)) (omega arith))

  pub among : {count n : ℕ} → Steps key k 0 count n → (n ≡ 0) ⊎ (2 ^ n ≤ 2 * count)
  among s = ⊎_elim inl (λ b. inr (omega arith)) (bounds s)

  -- "two to the power of the report is at most twice the count"
  pub bounded : {count n : ℕ} → Steps key k 0 count n → 0 < count → 2 ^ n ≤ 2 * count
  bounded s h = ⊎_elim (λ e. rw e (omega arith)) (λ b. b) (among s)

  -- "is 0 for an empty table"
  pub empty : {n : ℕ} → Steps key k 0 0 n → n ≡ 0
  unfolding looks turn
  empty s = settled_is 0 {low = 0} {high = 0} (omega arith) s

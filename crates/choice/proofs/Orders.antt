-- Lists of numbers of which the first that differs decides: such an order has no circle, and of two different lists of one length one comes first.
-- Assumes nothing.
use Prim.Native.Nat.{ℕ, ◌<◌}
use mathlib.Core.Path.{◌≡◌, refl, ◌∙◌}
use mathlib.Core.Logic.Iff
use mathlib.Core.Logic.{◌⊎◌, inl, inr, ⊎_elim, ◌↔◌}
use mathlib.Core.Bool.{true}
use mathlib.Core.List.{List, [], ◌∷◌}
use native.Mathlib.Decide.{dec_lt}
use native.Mathlib.Omega.{arith}
use lib.Dec.{eqb}
use lib.ListN.{length}
use Rattle.outcomes.proofs.Tests as tests
use Rattle.choice.specs.Ranks.{below}

-- by one number, and where it is equal by what follows
abbrev pub Lexical : ℕ → ℕ → Type 0 → Type 0
Lexical a b rest = (a < b) ⊎ ((a ≡ b) × rest)

pub below_exactly : (a b : ℕ) (x y : List ℕ) → (below (a ∷ x) (b ∷ y) ≡ true) ↔ Lexical a b (below x y ≡ true)
unfolding below
below_exactly a b x y = (
  λ e. ⊎_elim (λ l. inl ((tests.below a b).0 l)) (λ r. let p = (tests.and_true (eqb a b) (below x y)).0 r in inr ((tests.equal a b).0 p.0, p.1)) ((tests.or_true _ _).0 e),
  λ e. (tests.or_true _ _).1 (⊎_elim (λ l. inl ((tests.below a b).1 l)) (λ r. inr ((tests.and_true _ _).1 ((tests.equal a b).1 r.0, r.1))) e),
)

-- the same of whole lists
abbrev pub Below : List ℕ → List ℕ → Type 0
Below [] y = ⊥
Below (a ∷ x) [] = ⊥
Below (a ∷ x) (b ∷ y) = Lexical a b (Below x y)

pub below_lists : (x y : List ℕ) → (below x y ≡ true) ↔ Below x y
unfolding below
below_lists [] y = (λ e. let z : ◌≡◌ {A = ℕ} 0 1 = cc in omega arith, λ b. absurd b)
below_lists (a ∷ x) [] = (λ e. let z : ◌≡◌ {A = ℕ} 0 1 = cc in omega arith, λ b. absurd b)
below_lists (a ∷ x) (b ∷ y) = at (below_lists x y)
  where
    at : (below x y ≡ true) ↔ Below x y → (below (a ∷ x) (b ∷ y) ≡ true) ↔ Lexical a b (Below x y)
    at ih = Iff.trans (below_exactly a b x y) (⊎_elim inl (λ r. inr (r.0, ih.0 r.1)), ⊎_elim inl (λ r. inr (r.0, ih.1 r.1)))

pub below_trans : (x y z : List ℕ) → below x y ≡ true → below y z ≡ true → below x z ≡ true
unfolding below
below_trans [] y z e d = let c : ◌≡◌ {A = ℕ} 0 1 = cc in absurd (omega arith)
below_trans (a ∷ x) [] z e d = let c : ◌≡◌ {A = ℕ} 0 1 = cc in absurd (omega arith)
below_trans (a ∷ x) (b ∷ y) [] e d = let c : ◌≡◌ {A = ℕ} 0 1 = cc in absurd (omega arith)
below_trans (a ∷ x) (b ∷ y) (k ∷ z) e d = (below_exactly a k x z).1 (at (below_trans x y z) ((below_exactly a b x y).0 e) ((below_exactly b k y z).0 d))
  where
    at : (below x y ≡ true → below y z ≡ true → below x z ≡ true) → Lexical a b (below x y ≡ true) → Lexical b k (below y z ≡ true) → Lexical a k (below x z ≡ true)
    at ih (inl l) (inl m) = inl (omega arith)
    at ih (inl l) (inr m) = inl (omega (arith, m.0))
    at ih (inr l) (inl m) = inl (omega (arith, l.0))
    at ih (inr l) (inr m) = inr (l.0 ∙ m.0, ih l.1 m.1)

pub below_itself : (x : List ℕ) → below x x ≡ true → ⊥
unfolding below
below_itself [] e = let c : ◌≡◌ {A = ℕ} 0 1 = cc in omega arith
below_itself (a ∷ x) e = ⊎_elim (λ l. omega arith) (λ r. below_itself x r.1) ((below_exactly a a x x).0 e)

pub below_either : (x y : List ℕ) → length x ≡ length y → (below x y ≡ true) ⊎ ((below y x ≡ true) ⊎ (x ≡ y))
below_either [] [] l = inr (inr refl)
below_either [] (b ∷ y) l = absurd (omega arith)
below_either (a ∷ x) [] l = absurd (omega arith)
below_either (a ∷ x) (b ∷ y) l = at (below_either x y (omega arith)) (dec_lt a b) (dec_lt b a)
  where
    at : (below x y ≡ true) ⊎ ((below y x ≡ true) ⊎ (x ≡ y)) → Dec (a < b) → Dec (b < a) →
        (below (a ∷ x) (b ∷ y) ≡ true) ⊎ ((below (b ∷ y) (a ∷ x) ≡ true) ⊎ (a ∷ x ≡ b ∷ y))
    at ih (yes p) q = inl ((below_exactly a b x y).1 (inl p))
    at ih (no p) (yes q) = inr (inl ((below_exactly b a y x).1 (inl q)))
    at (inl s) (no p) (no q) = inl ((below_exactly a b x y).1 (inr (omega arith, s)))
    at (inr (inl s)) (no p) (no q) = inr (inl ((below_exactly b a y x).1 (inr (omega arith, s))))
    at (inr (inr s)) (no p) (no q) = let e : a ≡ b = omega arith in inr (inr cc)

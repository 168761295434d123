-- Tests and what they decide: one comparison, several put together, and a test against any proposition that it decides.
-- Assumes nothing.
use Prim.Native.Nat.{ℕ, ◌<◌, ◌≤◌}
use mathlib.Core.Path.{◌≡◌, refl, sym, ◌∙◌}
use mathlib.Core.Logic.{◌⊎◌, inl, inr, ⊎_elim, ◌↔◌}
use mathlib.Core.Bool.{Bool, true, false, not, ◌&&◌, ◌||◌, false≢true}
use lib.Dec.{ltb, leb, eqb}
use borrow.Author.Tests.{lt-ltb, le-ltb, le-leb, lt-leb, eq-eqb, ne_eqb, ltb-true, ltb-false, leb-true, leb-false, eqb-true, eqb-false}

-- ---- one comparison

pub below : (a b : ℕ) → (ltb a b ≡ true) ↔ (a < b)
below a b = (ltb-true a b, lt-ltb a b)

pub not_below : (a b : ℕ) → (ltb a b ≡ false) ↔ (b ≤ a)
not_below a b = (ltb-false a b, le-ltb a b)

pub at_most : (a b : ℕ) → (leb a b ≡ true) ↔ (a ≤ b)
at_most a b = (leb-true a b, le-leb a b)

pub not_at_most : (a b : ℕ) → (leb a b ≡ false) ↔ (b < a)
not_at_most a b = (leb-false a b, lt-leb a b)

pub equal : (a b : ℕ) → (eqb a b ≡ true) ↔ (a ≡ b)
equal a b = (eqb-true a b, eq-eqb a b)

pub unequal : (a b : ℕ) → (eqb a b ≡ false) ↔ (a ≡ b → ⊥)
unequal a b = (eqb-false a b, ne_eqb a b)

-- ---- tests put together

pub or_false : (s t : Bool) → ((s || t) ≡ false) ↔ ((s ≡ false) × (t ≡ false))
or_false true t = (λ e. absurd (false≢true (sym e)), λ p. absurd (false≢true (sym p.0)))
or_false false t = (λ e. (refl, e), λ p. p.1)

pub or_true : (s t : Bool) → ((s || t) ≡ true) ↔ ((s ≡ true) ⊎ (t ≡ true))
or_true true t = (λ e. inl refl, λ p. refl)
or_true false t = (λ e. inr e, ⊎_elim (λ e. absurd (false≢true e)) (λ e. e))

pub and_true : (s t : Bool) → ((s && t) ≡ true) ↔ ((s ≡ true) × (t ≡ true))
and_true true t = (λ e. (refl, e), λ p. p.1)
and_true false t = (λ e. absurd (false≢true e), λ p. absurd (false≢true p.0))

pub and_false : (s t : Bool) → ((s && t) ≡ false) ↔ (s ≡ true → t ≡ false)
and_false true t = (λ e d. e, λ h. h refl)
and_false false t = (λ e d. absurd (false≢true d), λ h. refl)

pub not_is : (t : Bool) → (not t ≡ true) ↔ (t ≡ false)
not_is true = (λ e. absurd (false≢true e), λ e. absurd (false≢true (sym e)))
not_is false = (λ e. refl, λ e. refl)

-- ---- a test that decides a proposition, by when it holds or by when it fails

module _ {P : Type 0} (t : Bool) where
  -- by when it holds
  pub fails : (t ≡ true) ↔ P → (t ≡ false) ↔ (P → ⊥)
  fails x = (λ e p. false≢true (sym e ∙ x.1 p), back t refl)
    where
      back : (s : Bool) → t ≡ s → (P → ⊥) → t ≡ false
      back true e h = absurd (h (x.0 e))
      back false e h = e

  -- by when it fails
  pub holds : (t ≡ false) ↔ P → (t ≡ true) ↔ (P → ⊥)
  holds x = (λ e p. false≢true (sym (x.1 p) ∙ e), back t refl)
    where
      back : (s : Bool) → t ≡ s → (P → ⊥) → t ≡ true
      back true e h = e
      back false e h = absurd (h (x.0 e))

-- ---- both ways of two laws put together

module _ {A B C D : Type 0} (f : A ↔ C) (g : B ↔ D) where
  pub implies : (A → B) ↔ (C → D)
  implies = (λ h c. g.0 (h (f.1 c)), λ h a. g.1 (h (f.0 a)))

  pub either : (A ⊎ B) ↔ (C ⊎ D)
  either = (⊎_elim (λ a. inl (f.0 a)) (λ b. inr (g.0 b)), ⊎_elim (λ c. inl (f.1 c)) (λ d. inr (g.1 d)))

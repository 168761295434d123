-- Each test is matched with its proposition: the difference of two numbers, the slope, and that one face comes before another.
-- Assumes nothing.
use Prim.Native.Nat.{ℕ, ◌<◌}
use mathlib.Core.Path.{◌≡◌, refl, sym, ◌∙◌}
use mathlib.Core.Logic.Iff
use mathlib.Core.Logic.{inl, inr, ⊎_elim, ◌↔◌}
use mathlib.Core.Bool.{Bool, true, false}
use native.Mathlib.Decide.{dec_lt}
use native.Mathlib.Omega.{arith}
use borrow.Author.Tests.{lt-ltb, le-ltb}
use Rattle.choice.specs.declared.Want.{Want}
use Rattle.choice.specs.Ranks.{Placed, differ, gap, numbers_of, before}
use Rattle.choice.specs.Settled.{Difference, Nearer, AsNear, Before, matching_slope, nearer_width, nearer_weight, lower_weight, lower_slot}
use Rattle.choice.proofs.Orders.{Below, below_lists}

-- ---- the difference of two numbers

pub gap_is : (a b : ℕ) → Difference a b (gap a b)
unfolding gap
gap_is a b = at (dec_lt a b)
  where
    at : Dec (a < b) → Difference a b (gap a b)
    at (yes h) = rw (lt-ltb a b h) (inl (omega arith))
    at (no h) = rw (le-ltb a b (omega arith)) (inr (omega arith))

pub difference_once : (a b d e : ℕ) → Difference a b d → Difference a b e → d ≡ e
difference_once a b d e p q = ⊎_elim (λ x. ⊎_elim (λ y. omega arith) (λ y. omega arith) q) (λ x. ⊎_elim (λ y. omega arith) (λ y. omega arith) q) p

pub nearer_exactly : (w a b : ℕ) → (gap w a < gap w b) ↔ Nearer w a b
nearer_exactly w a b = (
  λ l. record { one = gap w a; other = gap w b; of_a = gap_is w a; of_b = gap_is w b; smaller = l },
  λ n.
      let d = difference_once w a _ _ (gap_is w a) n.of_a in
      let e = difference_once w b _ _ (gap_is w b) n.of_b in
      omega (arith, d, e, n.smaller),
)

pub as_near_exactly : (w a b : ℕ) → (gap w a ≡ gap w b) ↔ AsNear w a b
as_near_exactly w a b = (
  λ e. record { both = gap w a; of_a = gap_is w a; of_b = rw e (gap_is w b) },
  λ n. difference_once w a _ _ (gap_is w a) n.of_a ∙ sym (difference_once w b _ _ (gap_is w b) n.of_b),
)

-- ---- the slope

no_bool : {A : Type 0} → true ≡ false → A
no_bool e = let z : ◌≡◌ {A = ℕ} 0 1 = cc in absurd (omega arith)

pub slope_first : (w f g : Bool) → (differ w f < differ w g) ↔ ((f ≡ w) × (g ≡ w → ⊥))
unfolding differ
slope_first true true true = (λ l. absurd (omega arith), λ p. absurd (p.1 refl))
slope_first true true false = (λ l. (refl, λ e. no_bool (sym e)), λ p. omega arith)
slope_first true false true = (λ l. absurd (omega arith), λ p. no_bool (sym p.0))
slope_first true false false = (λ l. absurd (omega arith), λ p. no_bool (sym p.0))
slope_first false true true = (λ l. absurd (omega arith), λ p. no_bool p.0)
slope_first false true false = (λ l. absurd (omega arith), λ p. no_bool p.0)
slope_first false false true = (λ l. (refl, λ e. no_bool e), λ p. omega arith)
slope_first false false false = (λ l. absurd (omega arith), λ p. absurd (p.1 refl))

pub slope_same : (w f g : Bool) → (differ w f ≡ differ w g) ↔ (f ≡ g)
unfolding differ
slope_same true true true = (λ e. refl, λ e. refl)
slope_same true true false = (λ e. absurd (omega arith), λ e. no_bool e)
slope_same true false true = (λ e. absurd (omega arith), λ e. no_bool (sym e))
slope_same true false false = (λ e. refl, λ e. refl)
slope_same false true true = (λ e. refl, λ e. refl)
slope_same false true false = (λ e. absurd (omega arith), λ e. no_bool e)
slope_same false false true = (λ e. absurd (omega arith), λ e. no_bool (sym e))
slope_same false false false = (λ e. refl, λ e. refl)

-- ---- one face before another

pub numbers_below : (w : Want) (p q : Placed) → (before w p q ≡ true) ↔ Below (numbers_of w p) (numbers_of w q)
unfolding before
numbers_below w p q = below_lists (numbers_of w p) (numbers_of w q)

pub before_exactly : (w : Want) (p q : Placed) → (before w p q ≡ true) ↔ Before w p.slot p.face q.slot q.face
unfolding numbers_of
before_exactly w p q = Iff.trans (numbers_below w p q) (there, back)
  where
    there : Below (numbers_of w p) (numbers_of w q) → Before w p.slot p.face q.slot q.face
    there (inl l) = let s = (slope_first _ _ _).0 l in matching_slope s.0 s.1
    there (inr (s, inl l)) = nearer_width ((slope_same _ _ _).0 s) ((nearer_exactly _ _ _).0 l)
    there (inr (s, inr (a, inl l))) = nearer_weight ((slope_same _ _ _).0 s) ((as_near_exactly _ _ _).0 a) ((nearer_exactly _ _ _).0 l)
    there (inr (s, inr (a, inr (b, inl l)))) = lower_weight ((slope_same _ _ _).0 s) ((as_near_exactly _ _ _).0 a) ((as_near_exactly _ _ _).0 b) l
    there (inr (s, inr (a, inr (b, inr (c, inl l))))) = lower_slot ((slope_same _ _ _).0 s) ((as_near_exactly _ _ _).0 a) ((as_near_exactly _ _ _).0 b) c l
    there (inr (s, inr (a, inr (b, inr (c, inr (d, n)))))) = absurd n

    back : Before w p.slot p.face q.slot q.face → Below (numbers_of w p) (numbers_of w q)
    back (matching_slope f g) = inl ((slope_first _ _ _).1 (f, g))
    back (nearer_width s n) = inr ((slope_same _ _ _).1 s, inl ((nearer_exactly _ _ _).1 n))
    back (nearer_weight s a n) = inr ((slope_same _ _ _).1 s, inr ((as_near_exactly _ _ _).1 a, inl ((nearer_exactly _ _ _).1 n)))
    back (lower_weight s a b l) = inr ((slope_same _ _ _).1 s, inr ((as_near_exactly _ _ _).1 a, inr ((as_near_exactly _ _ _).1 b, inl l)))
    back (lower_slot s a b c l) = inr ((slope_same _ _ _).1 s, inr ((as_near_exactly _ _ _).1 a, inr ((as_near_exactly _ _ _).1 b, inr (c, inl l))))

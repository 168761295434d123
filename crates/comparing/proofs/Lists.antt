-- The entries of 0, 1, 2, .. in turn: what stands in the list, its order, and that numbers without an entry may be passed over; and that a rising list is
-- settled by what stands in it.
-- Assumes nothing.
use Prim.Native.Nat.{ℕ, zero, suc, ◌≤◌, ◌<◌}
use mathlib.Core.Path.{◌≡◌, refl, ap, sym, ◌∙◌, subst}
use mathlib.Core.Logic.{⊎_elim, ◌↔◌}
use mathlib.Core.Option.{Option, none, some}
use mathlib.Core.List.Memᴰ
use mathlib.Core.List.{List, [], ◌∷◌, ◌++◌, append-nil, append_assoc, Memᴰ}
use native.Mathlib.Nat.{not-suc-le-zero}
use native.Mathlib.Decide.{dec_lt, ℕ_discrete}
use native.Mathlib.Omega.{arith}
use lib.ListN.{length, length-append}
use Rattle.comparing.specs.Lists.{entry_of, list_below, Rising, rising_none, rising_more, ListOf}

module _ {A : Type 0} where
  pub no_entry : {o : Option A} → o ≡ none → entry_of o ≡ []
  unfolding entry_of
  no_entry e = rw e

  pub one_entry : {o : Option A} {d : A} → o ≡ some d → entry_of o ≡ d ∷ []
  unfolding entry_of
  one_entry e = rw e

  entry_in : (d : A) (o : Option A) → Memᴰ d (entry_of o) ↔ (o ≡ some d)
  unfolding entry_of
  entry_in d none = (λ m. absurd (Memᴰ.not-nil m), λ e. let z : ◌≡◌ {A = ℕ} 0 1 = cc in absurd (omega arith))
  entry_in d (some x) = (λ m. ap some (sym (Memᴰ.eq_of_singleton m)), λ e. Memᴰ.head (let z : d ≡ x = cc in z))

  pub one_at_most : (o : Option A) → length (entry_of o) ≤ 1
  unfolding entry_of
  one_at_most none = omega arith
  one_at_most (some d) = omega arith

module _ {A : Type 0} (f : ℕ → Option A) where
  -- a number without an entry is passed over
  pub skip : (a b : ℕ) → a ≤ b → ((k : ℕ) → a ≤ k → k < b → f k ≡ none) → list_below f b ≡ list_below f a
  unfolding list_below
  skip a zero h g = let z : a ≡ 0 = omega arith in rw z
  skip a (suc b) h g = at (ℕ_discrete a (suc b)) (λ l. skip a b l (λ k h₁ h₂. g k h₁ (omega arith)))
    where
      at : Dec (a ≡ suc b) → (a ≤ b → list_below f b ≡ list_below f a) → list_below f (suc b) ≡ list_below f a
      at (yes q) r = rw q
      at (no q) r = simp (no_entry (g b (omega arith) (omega arith)), append-nil, r (omega arith))

  -- the list up to a number is the front of the list up to a larger one
  pub grows : (a b : ℕ) → a ≤ b → (rest : List A) × (list_below f b ≡ list_below f a ++ rest)
  unfolding list_below
  grows a zero h = let z : a ≡ 0 = omega arith in ([], rw z)
  grows a (suc b) h = at (ℕ_discrete a (suc b)) (λ l. grows a b l)
    where
      at : Dec (a ≡ suc b) → (a ≤ b → (rest : List A) × (list_below f b ≡ list_below f a ++ rest)) → (rest : List A) × (list_below f (suc b) ≡ list_below f a ++ rest)
      at (yes q) r = ([], rw q (sym (append-nil _)))
      at (no q) r = let s = r (omega arith) in (s.0 ++ entry_of (f b), rw s.1 (append_assoc (list_below f a) s.0 (entry_of (f b))))

  -- so it is not longer, and it is the whole where it is as long
  pub shorter : (a b : ℕ) → a ≤ b → length (list_below f a) ≤ length (list_below f b)
  shorter a b h = let g = grows a b h in rw g.1 (rw length-append (omega arith))

  pub whole : (a b : ℕ) → a ≤ b → length (list_below f a) ≡ length (list_below f b) → list_below f a ≡ list_below f b
  whole a b h e = let g = grows a b h in at g.0 g.1
    where
      at : (rest : List A) → list_below f b ≡ list_below f a ++ rest → list_below f a ≡ list_below f b
      at [] q = sym (q ∙ append-nil _)
      at (x ∷ rest) q = absurd (omega (arith, e, ap length q, length-append (list_below f a) (x ∷ rest)))

  -- a number has one entry at most
  pub one_each : (n : ℕ) → length (list_below f n) ≤ n
  unfolding list_below
  one_each zero = omega arith
  one_each (suc n) = rw length-append (omega (arith, one_each n, one_at_most (f n)))

  -- an entry stands in it exactly when it is that of a number below n
  pub in_list : (d : A) (n : ℕ) → Memᴰ d (list_below f n) ↔ ((k : ℕ) × (k < n) × (f k ≡ some d))
  unfolding list_below
  in_list d zero = (λ m. absurd (Memᴰ.not-nil m), λ p. absurd (not-suc-le-zero p.1))
  in_list d (suc n) = at (in_list d n)
    where
      at : Memᴰ d (list_below f n) ↔ ((k : ℕ) × (k < n) × (f k ≡ some d)) → Memᴰ d (list_below f n ++ entry_of (f n)) ↔ ((k : ℕ) × (k < suc n) × (f k ≡ some d))
      at ih = (
        λ m. ⊎_elim (λ x. let p = ih.0 x in (p.0, omega (arith, p.1), p.2)) (λ x. (n, omega arith, (entry_in d (f n)).0 x)) (Memᴰ.append_cases (list_below f n) m),
        λ p. side p.0 p.1 p.2 (dec_lt p.0 n),
      )
        where
          side : (k : ℕ) → k < suc n → f k ≡ some d → Dec (k < n) → Memᴰ d (list_below f n ++ entry_of (f n))
          side k l e (yes q) = Memᴰ.append_left _ (ih.1 (k, q, e))
          side k l e (no q) = let z : n ≡ k = omega arith in Memᴰ.append_right (list_below f n) ((entry_in d (f n)).1 (ap f z ∙ e))

-- ---- rising lists

module _ {A : Type 0} {Below : A → A → Type 0} where
  rising_append : (xs ys : List A) → Rising Below xs → Rising Below ys → ((d e : A) → Memᴰ d xs → Memᴰ e ys → Below d e) → Rising Below (xs ++ ys)
  rising_append [] ys rising_none s h = s
  rising_append (x ∷ xs) ys (rising_more g r) s h =
      rising_more
      (λ e m. ⊎_elim (λ l. g e l) (λ l. h x e (Memᴰ.head refl) l) (Memᴰ.append_cases xs m))
      (rising_append xs ys r s (λ d e m n. h d e (Memᴰ.tail m) n))

  rising_entry : (o : Option A) → Rising Below (entry_of o)
  unfolding entry_of
  rising_entry none = rising_none
  rising_entry (some d) = rising_more (λ e m. absurd (Memᴰ.not-nil m)) rising_none

  -- the list rises where a larger number has the larger entry
  pub rises : (f : ℕ → Option A) (n : ℕ) → ((j k : ℕ) (d e : A) → j < k → k < n → f j ≡ some d → f k ≡ some e → Below d e) → Rising Below (list_below f n)
  unfolding list_below
  rises f zero h = rising_none
  rises f (suc n) h =
      rising_append (list_below f n) (entry_of (f n)) (rises f n (λ j k d e l m. h j k d e l (omega arith))) (rising_entry (f n))
      (λ d e m l. let p = (in_list f d n).0 m in h p.0 n d e p.1 (omega arith) p.2 ((entry_in e (f n)).0 l))

  -- two rising lists in which the same stands are equal, where no two entries are below each other, so none below itself
  module _ (asymmetric : (d e : A) → Below d e → Below e d → ⊥) where
    same_head : {x y : A} {xs ys : List A} → ((e : A) → Memᴰ e xs → Below x e) → ((e : A) → Memᴰ e ys → Below y e)
        → Memᴰ x (y ∷ ys) → Memᴰ y (x ∷ xs) → x ≡ y
    same_head g k m n =
        ⊎_elim (λ e. e) (λ p. ⊎_elim (λ e. sym e) (λ q. absurd (asymmetric _ _ (k _ p) (g _ q))) (Memᴰ.cases_cons n)) (Memᴰ.cases_cons m)

    -- what stands behind the head on one side does so on the other
    behind : {x y : A} {xs ys : List A} → x ≡ y → ((e : A) → Memᴰ e xs → Below x e) → (d : A) → (Memᴰ d (x ∷ xs) → Memᴰ d (y ∷ ys))
        → Memᴰ d xs → Memᴰ d ys
    behind {x} e g d h m =
        ⊎_elim (λ q. let b = subst (λ z. Below x z) (q ∙ sym e) (g d m) in absurd (asymmetric x x b b)) (λ q. q) (Memᴰ.cases_cons (h (Memᴰ.tail m)))

    pub one_list : (xs ys : List A) → Rising Below xs → Rising Below ys → ((d : A) → Memᴰ d xs ↔ Memᴰ d ys) → xs ≡ ys
    one_list [] [] r s h = refl
    one_list [] (y ∷ ys) r s h = absurd (Memᴰ.not-nil ((h y).1 (Memᴰ.head refl)))
    one_list (x ∷ xs) [] r s h = absurd (Memᴰ.not-nil ((h x).0 (Memᴰ.head refl)))
    one_list (x ∷ xs) (y ∷ ys) (rising_more g r) (rising_more k s) h =
        let e : x ≡ y = same_head g k ((h x).0 (Memᴰ.head refl)) ((h y).1 (Memᴰ.head refl)) in
        let t : xs ≡ ys = one_list xs ys r s (λ d. (behind e g d (h d).0, behind (sym e) k d (h d).1)) in
        cc

-- a list of what is never so has no entry
pub none_so : {A : Type 0} {Below : A → A → Type 0} {So : A → Type 0} (ds : List A) → ListOf Below So ds → ((d : A) → So d → ⊥) → ds ≡ []
none_so [] x f = refl
none_so (d ∷ ds) x f = absurd (f d ((x.exactly d).0 (Memᴰ.head refl)))

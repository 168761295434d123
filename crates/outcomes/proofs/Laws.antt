-- The laws of the first found, for every loop that stops at one, by induction on how many places there are; and of an outcome's parts.
-- Assumes nothing.
use Prim.Native.Nat.{ℕ, zero, suc, ◌+◌, ◌<◌, ◌≤◌}
use mathlib.Core.Path.{◌≡◌, refl, ◌∙◌, ap}
use mathlib.Core.Logic.{◌⊎◌, inl, inr, ◌↔◌, ⊎_elim}
use mathlib.Core.Bool.{Bool, true, false}
use mathlib.Core.Option.{Option, none, some}
use native.Mathlib.Nat.{not-suc-le-zero, le_of_suc-le-suc, eq-or-lt_of_le}
use native.Mathlib.Numerals.{add-one}
use native.Mathlib.Omega.{arith}
use Rattle.outcomes.specs.Firsts.{when, ◌then◌, first_among, IsFirst}
use Rattle.outcomes.specs.Outcomes.{Refusal, Outcome, refused, answered, unless, refusing, found_or}

-- ---- a test

module _ {A : Type 0} where
  -- nothing is found exactly where the test fails, and x exactly where it holds
  pub when_none : (test : Bool) (x : A) → (when test x ≡ none) ↔ (test ≡ false)
  unfolding when
  when_none false x = (λ e. refl, λ e. refl)
  when_none true x = (λ e. let z : ◌≡◌ {A = ℕ} 0 1 = cc in absurd (omega arith), λ e. let z : ◌≡◌ {A = ℕ} 0 1 = cc in absurd (omega arith))

  pub when_some : (test : Bool) (x y : A) → (when test x ≡ some y) ↔ ((test ≡ true) × (x ≡ y))
  unfolding when
  when_some false x y = (
    λ e. let z : ◌≡◌ {A = ℕ} 0 1 = cc in absurd (omega arith),
    λ p. let z : ◌≡◌ {A = ℕ} 0 1 = cc in absurd (omega arith),
  )
  when_some true x y = (λ e. (refl, cc), λ p. ap some p.1)

  -- ---- two places

  pub then_none : (a b : Option A) → ((a then b) ≡ none) ↔ ((a ≡ none) × (b ≡ none))
  unfolding ◌then◌
  then_none none b = (λ e. (refl, e), λ p. p.1)
  then_none (some x) b = (λ e. let z : ◌≡◌ {A = ℕ} 0 1 = cc in absurd (omega arith), λ p. p.0)

  -- past a test: it fails, and nothing is found after it
  pub passed : (test : Bool) (x : A) (o : Option A) → ((when test x then o) ≡ none) ↔ ((test ≡ false) × (o ≡ none))
  passed test x o = (
    λ e. let p = (then_none (when test x) o).0 e in ((when_none test x).0 p.0, p.1),
    λ p. (then_none (when test x) o).1 ((when_none test x).1 p.0, p.1),
  )

  -- what is found is found first, or behind nothing
  pub then_some : (a b : Option A) (x : A) → ((a then b) ≡ some x) ↔ ((a ≡ some x) ⊎ ((a ≡ none) × (b ≡ some x)))
  unfolding ◌then◌
  then_some none b x = (λ e. inr (refl, e), ⊎_elim (λ e. let z : ◌≡◌ {A = ℕ} 0 1 = cc in absurd (omega arith)) (λ p. p.1))
  then_some (some y) b x = (λ e. inl e, ⊎_elim (λ e. e) (λ p. let z : ◌≡◌ {A = ℕ} 0 1 = cc in absurd (omega arith)))

  -- at a test, or behind one that fails
  pub met : (test : Bool) (x : A) (o : Option A) (y : A) → ((when test x then o) ≡ some y) ↔ (((test ≡ true) × (x ≡ y)) ⊎ ((test ≡ false) × (o ≡ some y)))
  met test x o y = (
    λ e. ⊎_elim (λ p. inl ((when_some test x y).0 p)) (λ p. inr ((when_none test x).0 p.0, p.1)) ((then_some (when test x) o y).0 e),
    λ s. (then_some (when test x) o y).1 (⊎_elim (λ p. inl ((when_some test x y).1 p)) (λ p. inr ((when_none test x).1 p.0, p.1)) s),
  )

-- ---- 0, 1, .., n - 1

module _ {A : Type 0} (f : ℕ → Option A) where
  pub first_none : first_among f 0 ≡ none
  unfolding first_among
  first_none = refl

  pub first_more : (i : ℕ) → first_among f i ≡ none → f i ≡ none → first_among f (i + 1) ≡ none
  unfolding first_among
  first_more i a e = rw add-one ((then_none (first_among f i) (f i)).1 (a, e))

  pub first_stop : (i n : ℕ) {x : A} → i < n → first_among f i ≡ none → f i ≡ some x → first_among f n ≡ some x
  unfolding first_among ◌then◌
  first_stop i zero l a e = absurd (not-suc-le-zero l)
  first_stop i (suc n) l a e =
      ⊎_elim (λ q. rw (← q) (simp (a, e))) (λ q. simp (first_stop i n q a e)) (eq-or-lt_of_le (le_of_suc-le-suc l))

  each : (n : ℕ) → first_among f n ≡ none → (i : ℕ) → i < n → f i ≡ none
  unfolding first_among
  each zero a i l = absurd (not-suc-le-zero l)
  each (suc n) a i l =
      let p = (then_none (first_among f n) (f n)).0 a in
      ⊎_elim (λ q. rw q p.1) (λ q. each n p.0 i q) (eq-or-lt_of_le (le_of_suc-le-suc l))

  all : (n : ℕ) → ((i : ℕ) → i < n → f i ≡ none) → first_among f n ≡ none
  unfolding first_among
  all zero g = refl
  all (suc n) g = (then_none (first_among f n) (f n)).1 (all n (λ i l. g i (omega arith)), g n (omega arith))

  -- nothing is found exactly when nothing is at any place
  pub first_all : (n : ℕ) → (first_among f n ≡ none) ↔ ((i : ℕ) → i < n → f i ≡ none)
  first_all n = (each n, all n)

  -- x is found exactly when it is at a place that has nothing before it
  pub first_exactly : (n : ℕ) (x : A) → (first_among f n ≡ some x) ↔ IsFirst f n x
  unfolding first_among ◌then◌
  first_exactly n x = (there n, λ p. first_stop p.place n p.inside (all p.place p.earlier) p.here)
    where
      there : (m : ℕ) → first_among f m ≡ some x → IsFirst f m x
      there zero e = let z : ◌≡◌ {A = ℕ} 0 1 = cc in absurd (omega arith)
      there (suc m) e = split m (first_among f m) refl e (there m)
        where
          split : (k : ℕ) (o : Option A) → first_among f k ≡ o → (o then f k) ≡ some x → (first_among f k ≡ some x → IsFirst f k x) → IsFirst f (suc k) x
          split k none d e r = record { place = k; inside = omega arith; here = e; earlier = each k d }
          split k (some y) d e r =
              let p = r (d ∙ e) in
              record { place = p.place; inside = omega (arith, p.inside); here = p.here; earlier = p.earlier }

-- two that are equal at each place find the same
pub first_same : {A : Type 0} (f g : ℕ → Option A) (n : ℕ) → ((i : ℕ) → i < n → f i ≡ g i) → first_among f n ≡ first_among g n
unfolding first_among
first_same f g zero h = refl
first_same f g (suc n) h = rw (first_same f g n (λ i l. h i (omega arith)), h n (omega arith))

-- ---- a test at each place

-- x is what the lowest place has at which the test holds
pub record Lowest {A : Type 0} (test : ℕ → Bool) (g : ℕ → A) (n : ℕ) (x : A) : Type 0 where
  pub place : ℕ
  pub inside : place < n
  pub holds : test place ≡ true
  pub is : g place ≡ x
  pub earlier : (i : ℕ) → i < place → test i ≡ false

module _ {A : Type 0} (test : ℕ → Bool) (g : ℕ → A) where
  pub lowest_exactly : (n : ℕ) (x : A) → (first_among (λ i. when (test i) (g i)) n ≡ some x) ↔ Lowest test g n x
  lowest_exactly n x = (there, back)
    where
      there : first_among (λ i. when (test i) (g i)) n ≡ some x → Lowest test g n x
      there e =
          let p = (first_exactly (λ i. when (test i) (g i)) n x).0 e in
          let h = (when_some (test p.place) (g p.place) x).0 p.here in
          record {
            place = p.place;
            inside = p.inside;
            holds = h.0;
            is = h.1;
            earlier = λ i l. (when_none (test i) (g i)).0 (p.earlier i l);
          }

      back : Lowest test g n x → first_among (λ i. when (test i) (g i)) n ≡ some x
      back p =
          (first_exactly (λ i. when (test i) (g i)) n x).1 (
          record {
            place = p.place;
            inside = p.inside;
            here = (when_some (test p.place) (g p.place) x).1 (p.holds, p.is);
            earlier = λ i l. (when_none (test i) (g i)).1 (p.earlier i l);
          }
          )

  -- nothing is found exactly when no test holds
  pub none_exactly : (n : ℕ) → (first_among (λ i. when (test i) (g i)) n ≡ none) ↔ ((i : ℕ) → i < n → test i ≡ false)
  none_exactly n = (
    λ e i l. (when_none (test i) (g i)).0 ((first_all (λ j. when (test j) (g j)) n).0 e i l),
    λ h. (first_all (λ j. when (test j) (g j)) n).1 (λ i l. (when_none (test i) (g i)).1 (h i l)),
  )

-- ---- outcomes

module _ {A : Type 0} where
  -- what is answered is what nothing refuses
  pub unless_answered : (r : Option Refusal) (o : Outcome A) (x : A) → (unless r o ≡ answered x) ↔ ((r ≡ none) × (o ≡ answered x))
  unfolding unless
  unless_answered none o x = (λ e. (refl, e), λ p. p.1)
  unless_answered (some r) o x = (
    λ e. let z : ◌≡◌ {A = ℕ} 0 1 = cc in absurd (omega arith),
    λ p. let z : ◌≡◌ {A = ℕ} 0 1 = cc in absurd (omega arith),
  )

  -- what an order refuses with comes from it, where what follows refuses nothing
  pub unless_refused : (r : Option Refusal) (x : A) (n : ℕ) (c : Option ℕ) → (unless r (answered x) ≡ refused n c) ↔ (r ≡ some (record { number = n; carried = c }))
  unfolding unless
  unless_refused none x n c = (
    λ e. let z : ◌≡◌ {A = ℕ} 0 1 = cc in absurd (omega arith),
    λ e. let z : ◌≡◌ {A = ℕ} 0 1 = cc in absurd (omega arith),
  )
  unless_refused (some r) x n c = (
    λ e. let a : r.number ≡ n = cc in let b : r.carried ≡ c = cc in rw (← a, ← b),
    λ e. let d : r ≡ record { number = n; carried = c } = cc in rw d,
  )

  -- an order in two halves
  pub unless_then : (a b : Option Refusal) (o : Outcome A) → unless (a then b) o ≡ unless a (unless b o)
  unfolding unless ◌then◌
  unless_then none b o = refl
  unless_then (some r) b o = refl

-- ---- outcomes: what comes after an order that refuses otherwise, and what follows from what was found

module _ {A : Type 0} where
  pub unless_own : (r : Option Refusal) (o : Outcome A) {n : ℕ} {c : Option ℕ} → ((x : Refusal) → r ≡ some x → x.number ≡ n → ⊥)
      → (unless r o ≡ refused n c) ↔ ((r ≡ none) × (o ≡ refused n c))
  unfolding unless
  unless_own none o h = (λ e. (refl, e), λ p. p.1)
  unless_own (some x) o h = (λ e. absurd (h x refl (cc)), λ p. let z : ◌≡◌ {A = ℕ} 0 1 = cc in absurd (omega arith))

  module _ {r : Option Refusal} (o : Outcome A) where
    pub passed_on : {x : Refusal} → r ≡ some x → unless r o ≡ refusing x
    unfolding unless
    passed_on e = simp e

    pub not_refused : r ≡ none → unless r o ≡ o
    unfolding unless
    not_refused e = simp e

module _ {A B : Type 0} (r : Refusal) {o : Option A} (f : A → Outcome B) where
  pub found : {x : A} → o ≡ some x → found_or r o f ≡ f x
  unfolding found_or
  found e = simp e

  pub not_found : o ≡ none → found_or r o f ≡ refusing r
  unfolding found_or
  not_found e = simp e

-- ---- an order on its way: a test that holds ends it, one that fails leaves what follows

module _ {A : Type 0} (test : Bool) (x : A) (o : Option A) where
  pub here : test ≡ true → (when test x then o) ≡ some x
  unfolding when ◌then◌
  here e = simp e

  pub past : test ≡ false → (when test x then o) ≡ o
  unfolding when ◌then◌
  past e = simp e

module _ {A : Type 0} {a : Option A} (b : Option A) where
  pub first_here : {x : A} → a ≡ some x → (a then b) ≡ some x
  unfolding ◌then◌
  first_here e = simp e

  pub first_past : a ≡ none → (a then b) ≡ b
  unfolding ◌then◌
  first_past e = simp e

-- ---- a loop that stops at the first found of n: nothing is found before i

pub record SoFar {A : Type 0} (f : ℕ → Option A) (n i : ℕ) : Type 0 where
  pub within : i ≤ n
  pub nothing : first_among f i ≡ none

module _ {A : Type 0} (f : ℕ → Option A) where
  pub at_first : (n : ℕ) → SoFar f n 0
  at_first n = record { within = omega arith; nothing = first_none f }

  module _ {n i : ℕ} (s : SoFar f n i) where
    pub goes_on : i < n → f i ≡ none → SoFar f n (i + 1)
    goes_on l e = record { within = omega arith; nothing = first_more f i s.nothing e }

    pub stops : {x : A} → i < n → f i ≡ some x → first_among f n ≡ some x
    stops l e = first_stop f i n l s.nothing e

    pub at_last : n ≤ i → first_among f n ≡ none
    at_last l = let e : i ≡ n = omega arith in rw (← e) s.nothing

-- ---- what holds of all that an order can find

module _ {A : Type 0} (P : A → Type 0) where
  abbrev pub Only : Option A → Type 0
  Only o = (x : A) → o ≡ some x → P x

  pub only_when : (test : Bool) (y : A) → P y → Only (when test y)
  only_when test y p x e = rw ((when_some test y x).0 e).1 at p

  pub only_then : (a b : Option A) → Only a → Only b → Only (a then b)
  unfolding ◌then◌
  only_then none b p q = q
  only_then (some y) b p q = p

  pub only_first : (f : ℕ → Option A) (n : ℕ) → ((i : ℕ) → Only (f i)) → Only (first_among f n)
  only_first f n h x e = let p = (first_exactly f n x).0 e in h p.place x p.here

-- an order that knows one refusal alone: it gives that one wherever it finds something
pub only_one : {A : Type 0} {y : A} (o : Option A) → Only (λ x. x ≡ y) o → (o ≡ none → ⊥) → o ≡ some y
only_one none p h = absurd (h refl)
only_one (some x) p h = ap some (p x refl)

-- The code's one number stands to a record's as the key does to the record's key, whatever the key's parts are: so it finds the same record, and looks as often.
-- Assumes nothing.
use Prim.Native.Nat.{ℕ, ◌+◌, ◌*◌, ◌≤◌, ◌<◌}
use mathlib.Core.Path.{◌≡◌, refl, sym, ap, ◌∙◌}
use mathlib.Core.Logic.{inl, inr, ⊎_elim, ◌↔◌}
use mathlib.Core.Bool.{Bool, true, false, cond, ◌&&◌, false≢true}
use mathlib.Core.Option.{Option, none}
use mathlib.Core.List.{List}
use native.Mathlib.Nat.{suc-le-suc_iff}
use native.Mathlib.Decide.{dec_lt}
use native.Mathlib.Omega.{arith}
use lib.Dec.{ltb, eqb}
use Rattle.bigendian.specs.Numbers.{Bytes}
use Rattle.outcomes.specs.Firsts.{when, first_among}
use Rattle.outcomes.proofs.Tests as tests
use Rattle.outcomes.proofs.Tests.{or_false, not_below}
use Rattle.name_layout.specs.Layout.{count}
use Rattle.name_layout.specs.Keys.{Key, key_from, key_of, KeyBelow, same, below, packed}
use Rattle.name_layout.proofs.Keys.{Small, key_small, same_is, below_is, packed_order, same_packed}
use Rattle.name.specs.Acceptance.{faults}
use Rattle.name_search.specs.Steps.{looks}
use Rattle.name_search.specs.Searches.{record_with, looks_for}
use Rattle.name_search.specs.Seeking.{beyond, last_before, sought_by, doubled, record_sought, looks_sought}
use Rattle.name_search.proofs.Finds.{ordered}
use Rattle.name_search.proofs.Halvings.{Rising}

-- what a search for a key goes by
unfoldable pub sought_of : Key → ℕ
sought_of k = cond (beyond k) (2 * packed (last_before k.platform k.encoding k.language) + 1) (2 * packed k)

-- each part of a key is below 65,536, or one is beyond
pub not_beyond : (k : Key) → (beyond k ≡ false) ↔ Small k
not_beyond k = (
  (λ e.
      let p = (or_false _ _).0 e in
      let q = (or_false _ _).0 p.0 in
      let r = (or_false _ _).0 q.0 in
      record {
        platform = suc-le-suc_iff.1 ((not_below 65535 k.platform).0 r.0);
        encoding = suc-le-suc_iff.1 ((not_below 65535 k.encoding).0 r.1);
        language = suc-le-suc_iff.1 ((not_below 65535 k.language).0 q.1);
        name = suc-le-suc_iff.1 ((not_below 65535 k.name).0 p.1);
      }),
  λ s.
      let a = (not_below 65535 k.platform).1 (omega arith) in
      let b = (not_below 65535 k.encoding).1 (omega arith) in
      let c = (not_below 65535 k.language).1 (omega arith) in
      let d = (not_below 65535 k.name).1 (omega arith) in
      (or_false _ _).1 ((or_false _ _).1 ((or_false _ _).1 (a, b), c), d),
)

-- ---- against a key of 16-bit numbers

module _ {j : Key} (sj : Small j) (k : Key) where
  -- each part from the first that is above 65,535 on is 65,535 in the last key before: no key of 16-bit numbers lies between the two
  last_platform : 65535 < k.platform → (packed j ≤ packed (key_from 65535 65535 65535 65535)) ↔ KeyBelow j k
  last_platform o = (λ l. inl (omega arith), λ p. omega arith)

  last_encoding : 65535 < k.encoding → (packed j ≤ packed (key_from k.platform 65535 65535 65535)) ↔ KeyBelow j k
  last_encoding o = (λ l. by l (dec_lt j.platform k.platform), ⊎_elim (λ p. omega arith) (λ p. omega arith))
    where
      by : packed j ≤ packed (key_from k.platform 65535 65535 65535) → Dec (j.platform < k.platform) → KeyBelow j k
      by l (yes p) = inl p
      by l (no p) = inr (omega arith, inl (omega arith))

  last_language : k.encoding ≤ 65535 → 65535 < k.language → (packed j ≤ packed (key_from k.platform k.encoding 65535 65535)) ↔ KeyBelow j k
  last_language e o =
      (λ l. by l (dec_lt j.platform k.platform) (dec_lt j.encoding k.encoding), ⊎_elim (λ p. omega arith) (λ p. ⊎_elim (λ q. omega arith) (λ q. omega arith) p.1))
    where
      by : packed j ≤ packed (key_from k.platform k.encoding 65535 65535) → Dec (j.platform < k.platform) → Dec (j.encoding < k.encoding) → KeyBelow j k
      by l (yes p) d = inl p
      by l (no p) (yes q) = inr (omega arith, inl q)
      by l (no p) (no q) = inr (omega arith, inr (omega arith, inl (omega arith)))

  last_name : k.encoding ≤ 65535 → k.language ≤ 65535 → 65535 < k.name →
      (packed j ≤ packed (key_from k.platform k.encoding k.language 65535)) ↔ KeyBelow j k
  last_name e f o = (
    λ l. by l (dec_lt j.platform k.platform) (dec_lt j.encoding k.encoding) (dec_lt j.language k.language),
    ⊎_elim (λ p. omega arith) (λ p. ⊎_elim (λ q. omega arith) (λ q. ⊎_elim (λ r. omega arith) (λ r. omega arith) q.1) p.1),
  )
    where
      by : packed j ≤ packed (key_from k.platform k.encoding k.language 65535) →
          Dec (j.platform < k.platform) → Dec (j.encoding < k.encoding) → Dec (j.language < k.language) → KeyBelow j k
      by l (yes p) d g = inl p
      by l (no p) (yes q) g = inr (omega arith, inl q)
      by l (no p) (no q) (yes r) = inr (omega arith, inr (omega arith, inl r))
      by l (no p) (no q) (no r) = inr (omega arith, inr (omega arith, inr (omega arith, omega arith)))

  last_order : (Small k → ⊥) → (packed j ≤ packed (last_before k.platform k.encoding k.language)) ↔ KeyBelow j k
  unfolding last_before
  last_order out = by (ltb 65535 k.platform) refl (ltb 65535 k.encoding) refl (ltb 65535 k.language) refl
    where
      named : k.platform ≤ 65535 → k.encoding ≤ 65535 → k.language ≤ 65535 → Dec (65535 < k.name) → 65535 < k.name
      named a b c (yes d) = d
      named a b c (no d) = absurd (out (record { platform = omega arith; encoding = omega arith; language = omega arith; name = omega arith }))

      by : (a : Bool) → ltb 65535 k.platform ≡ a → (b : Bool) → ltb 65535 k.encoding ≡ b → (c : Bool) → ltb 65535 k.language ≡ c →
          (packed j ≤ packed (last_before k.platform k.encoding k.language)) ↔ KeyBelow j k
      by true x b y c z = rw x (last_platform ((tests.below 65535 _).0 x))
      by false x true y c z = rw (x, y) (last_encoding ((tests.below 65535 _).0 y))
      by false x false y true z = rw (x, y, z) (last_language ((not_below 65535 _).0 y) ((tests.below 65535 _).0 z))
      by false x false y false z =
          let e = (not_below 65535 k.encoding).0 y in
          let f = (not_below 65535 k.language).0 z in
          rw (x, y, z) (last_name e f (named ((not_below 65535 k.platform).0 x) e f (dec_lt 65535 k.name)))

  -- twice the number of j stands to what a search for k goes by as j stands to k
  pub sought_order : (2 * packed j < sought_of k) ↔ KeyBelow j k
  unfolding sought_of
  sought_order = by (beyond k) refl
    where
      by : (o : Bool) → beyond k ≡ o → (2 * packed j < sought_of k) ↔ KeyBelow j k
      by false e = let o = packed_order sj ((not_beyond k).0 e) in rw e (λ l. o.0 (omega arith), λ p. omega (arith, o.1 p))
      by true e =
          let o = last_order (λ s. false≢true (sym ((not_beyond k).1 s) ∙ e)) in
          rw e (λ l. o.0 (omega arith), λ p. omega (arith, o.1 p))

  pub sought_same : (2 * packed j ≡ sought_of k) ↔ (j ≡ k)
  unfolding sought_of
  sought_same = by (beyond k) refl
    where
      by : (o : Bool) → beyond k ≡ o → (2 * packed j ≡ sought_of k) ↔ (j ≡ k)
      by false e = rw e (λ l. (same_is j k).0 (same_packed sj ((not_beyond k).0 e) ∙ (tests.equal (packed j) (packed k)).1 (omega arith)), λ p. ap (λ x. 2 * packed x) p)
      by true e = rw e (λ l. absurd (omega arith), λ p. absurd (false≢true (sym ((not_beyond k).1 (rw p at sj)) ∙ e)))

-- ---- what the code goes by

module _ (k : Key) where
  pub sought_exact : beyond k ≡ false → sought_by (packed k) true ≡ sought_of k
  unfolding sought_of
  sought_exact e = rw e refl

  pub sought_behind : beyond k ≡ true → sought_by (packed (last_before k.platform k.encoding k.language)) false ≡ sought_of k
  unfolding sought_of
  sought_behind e = rw e refl

-- ---- in a table

-- two tests that decide the same are equal
agree : {P Q : Type 0} (s r : Bool) → (s ≡ true) ↔ P → (r ≡ true) ↔ Q → P ↔ Q → s ≡ r
agree s true f g h = f.1 (h.1 (g.0 refl))
agree s false f g h = (tests.fails s f).1 (λ p. false≢true (g.1 (h.0 p)))

module _ (t : List ℕ) (b : Bytes t) (k : Key) where
  same_test : (i : ℕ) → eqb (doubled t i) (sought_of k) ≡ same (key_of t i) k
  same_test i = agree _ _ (tests.equal _ _) (same_is (key_of t i) k) (sought_same (key_small t b i) k)

  below_test : (i : ℕ) → ltb (doubled t i) (sought_of k) ≡ below (key_of t i) k
  below_test i = agree _ _ (tests.below _ _) (below_is (key_of t i) k) (sought_order (key_small t b i) k)

  find_sought : record_sought t (sought_of k) ≡ record_with t k
  unfolding record_with record_sought
  find_sought = λ j. first_among (λ i. when (same_test i j) i) (count t)

  looks_sought_lem : looks_sought t (sought_of k) ≡ looks_for t k
  unfolding looks_sought looks_for
  looks_sought_lem = λ j. looks (λ i. same_test i j) (λ i. below_test i j) (count t) 0 (count t)

  -- what is found and counted by that is the key's
  pub by_sought : (by : ℕ) → by ≡ sought_of k → {o : Option ℕ} {n : ℕ} → (o ≡ record_sought t by) × (n ≡ looks_sought t by) → (o ≡ record_with t k) × (n ≡ looks_for t k)
  by_sought by e p = (p.0 ∙ ap (record_sought t) e ∙ find_sought, p.1 ∙ ap (looks_sought t) e ∙ looks_sought_lem)

-- twice the keys of an accepted table rise
pub doubled_rise : (t : List ℕ) → Bytes t → faults t ≡ none → Rising (doubled t) (count t)
unfolding Rising
doubled_rise t b a i j l h = omega (arith, ordered t b a i j l h)

-- ---- what the code compares, against what it goes by

module _ (here number : ℕ) where
  pub hit : (exact : Bool) → (eqb here number && exact) ≡ true → 2 * here ≡ sought_by number exact
  hit true e = omega (arith, (tests.equal here number).0 ((tests.and_true (eqb here number) true).0 e).0)
  hit false e = absurd (false≢true ((tests.and_true (eqb here number) false).0 e).1)

  pub short : (exact : Bool) → (eqb here number && exact) ≡ false → here ≤ number → 2 * here < sought_by number exact
  short true e l = let n : here ≡ number → ⊥ = λ p. false≢true (sym ((tests.and_false (eqb here number) true).0 e ((tests.equal here number).1 p))) in omega arith
  short false e l = omega arith

  pub far : (exact : Bool) → number < here → sought_by number exact < 2 * here
  far true l = omega arith
  far false l = omega arith

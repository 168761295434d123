-- A search finds a record that has the key, in an accepted table the only one; and a search by a key's one number finds the same.
-- Assumes nothing.
use Prim.Native.Nat.{ℕ, ◌+◌, ◌-◌, ◌≤◌, ◌<◌}
use mathlib.Core.Path.{◌≡◌, refl, sym, ap, ◌∙◌}
use mathlib.Core.Logic.{◌↔◌}
use mathlib.Core.Option.{Option, none, some}
use mathlib.Core.List.{List}
use native.Mathlib.Omega.{arith}
use lib.Dec.{eqb}
use lib.ListN.{length, take, drop}
use Rattle.bigendian.specs.Numbers.{Bytes}
use Rattle.outcomes.specs.Firsts.{when, first_among}
use Rattle.outcomes.proofs.Laws.{when_none, when_some, lowest_exactly, first_all, first_exactly, first_same}
use Rattle.outcomes.proofs.Tests.{fails}
use Rattle.name_layout.specs.Layout.{count, bytes_of}
use Rattle.name_layout.specs.Keys.{Key, key_of, same, packed}
use Rattle.name_layout.proofs.Keys.{Small, key_small, same_is, same_packed}
use Rattle.name.specs.Acceptable.{Acceptable}
use Rattle.name.specs.Acceptance.{faults}
use Rattle.name.proofs.Acceptances.{keys_rise, string_inside}
use Rattle.name.proofs.Theorems.{acceptable}
use Rattle.name_search.specs.declared.Text.{Text}
use Rattle.name_search.specs.Searches.{HasKey, AtMostOne, record_with, StringOf, HasBytes, text_of}
use Rattle.name_search.proofs.Halvings.{Rising, rising}

-- the keys of an accepted table rise
pub ordered : (t : List ℕ) → Bytes t → faults t ≡ none → Rising (λ i. packed (key_of t i)) (count t)
ordered t b a = rising _ _ (keys_rise t a b)

-- the record whose key is one number
unfoldable pub record_numbered : List ℕ → ℕ → Option ℕ
record_numbered t number = first_among (λ i. when (eqb (packed (key_of t i)) number) i) (count t)

module _ (t : List ℕ) (k : Key) where
  -- what is found has the key
  pub find_has : {i : ℕ} → record_with t k ≡ some i → HasKey t k i
  unfolding record_with
  find_has {i} f =
      let p = (lowest_exactly (λ j. same (key_of t j) k) (λ j. j) (count t) i).0 f in
      record { inside = rw p.is at p.inside; has = (same_is (key_of t i) k).0 (rw p.is at p.holds) }

  -- nothing is found exactly when no record has it
  pub find_none : (record_with t k ≡ none) ↔ ((i : ℕ) → HasKey t k i → ⊥)
  unfolding record_with
  find_none = (
    λ f i h. (fails _ (same_is (key_of t i) k)).0 ((when_none _ _).0 ((first_all _ (count t)).0 f i h.inside)) h.has,
    λ f. (first_all _ (count t)).1 (λ i l. (when_none _ _).1 ((fails _ (same_is (key_of t i) k)).1 (λ e. f i (record { inside = l; has = e })))),
  )

  module _ (b : Bytes t) where
    -- in an accepted table, the only one that has it
    pub find_at : faults t ≡ none → {i : ℕ} → HasKey t k i → record_with t k ≡ some i
    unfolding record_with Rising
    find_at a {i} h =
        (first_exactly _ (count t) i).1 (record {
          place = i;
          inside = h.inside;
          here = (when_some _ i i).1 ((same_is (key_of t i) k).1 h.has, refl);
          earlier = λ j l. (when_none _ j).1 ((fails _ (same_is (key_of t j) k)).1 (λ e. omega (arith, ap packed e, ap packed h.has, ordered t b a j i l h.inside)));
        })

    pub find_numbered : Small k → record_numbered t (packed k) ≡ record_with t k
    unfolding record_with record_numbered
    find_numbered s = first_same _ _ (count t) (λ i l. ap (λ test. when test i) (sym (same_packed (key_small t b i) s)))

pub at_most_one : AtMostOne
at_most_one t b p k i j h g =
    let a = (acceptable t).1 p in
    let e : some i ≡ some j = sym (find_at t k b a h) ∙ find_at t k b a g in cc

-- ---- a record's string

-- it is the one with the record's number, and no other is
pub text_is : (t : List ℕ) (i : ℕ) (x : Text) → (x ≡ text_of t i) ↔ StringOf t i x
unfolding text_of
text_is t i x = (
  λ e. record {
    start = ap (λ (y : Text). y.start) e;
    len = ap (λ (y : Text). y.len) e;
    number = ap (λ (y : Text). y.«record») e;
  },
  λ s. λ p. record { start = s.start p; len = s.len p; «record» = s.number p },
)

module _ (t : List ℕ) {x : Text} (i : ℕ) (e : x ≡ text_of t i) where
  pub text_inside : faults t ≡ none → i < count t → x.start + x.len ≤ length t
  unfolding text_of
  text_inside a h = rw e (string_inside t a i h)

  pub has_bytes : Acceptable t → i < count t → HasBytes t x
  unfolding text_of bytes_of
  has_bytes a h = rw e (omega arith, a.strings i h, refl)

  -- the part cut out is its bytes
  pub part_is : take (x.start + x.len - x.start) (drop x.start t) ≡ bytes_of t i
  unfolding bytes_of text_of
  part_is =
      let z : x.start + x.len - x.start ≡ x.len = omega arith in
      rw (z, e)

-- "each key once and with which of the three it is": a key is listed exactly when one of the three holds of it, and keys rise.
-- Assumes nothing.
use Prim.Native.Nat.{ℕ, ◌<◌}
use mathlib.Core.Path.{◌≡◌, refl, sym, ap, ◌∙◌, subst}
use mathlib.Core.Bool.{Bool, true, false, false≢true}
use mathlib.Core.Option.{Option, none, some, some-injective}
use mathlib.Core.List.{List, []}
use native.Mathlib.Omega.{arith}
use Rattle.bigendian.specs.Numbers.{Bytes}
use Rattle.outcomes.specs.Firsts.{when}
use Rattle.outcomes.proofs.Tests.{fails}
use Rattle.name_layout.specs.Layout.{bytes_of}
use Rattle.name_layout.specs.Keys.{Key, packed}
use Rattle.name_layout.proofs.Keys.{Small, key_small, packed_order}
use Rattle.name.specs.Acceptance.{faults}
use Rattle.name_search.specs.Searches.{record_with}
use Rattle.name_search.proofs.Finds.{find_has, find_at, find_none}
use Rattle.comparing.specs.Lists.{ListOf}
use Rattle.comparing.proofs.Lists.{in_list, rises, none_so}
use Rattle.same_bytes.specs.Same.{same}
use Rattle.same_bytes.proofs.Strings.{same_exactly}
use Rattle.name_compare.specs.Differences.{Difference, left_only, right_only, both_other, in_both, which_of, entry_for, key_numbered, key_count, difference_at, differences}
use Rattle.name_compare.specs.Settled.{Differs, only_left, only_right, other_bytes, DifferenceBelow}
use Rattle.name_compare.proofs.KeyNumbers.{numbered_packed, numbered_small, packed_below, packed_numbered}

-- ---- an entry is that of a key on which the tables differ

module _ (left right : List ℕ) (bl : Bytes left) (br : Bytes right) (al : faults left ≡ none) (ar : faults right ≡ none) where
  -- what the definition says of a key
  abbrev entry : Key → Option Difference
  entry k = entry_for k (which_of left right (record_with left k) (record_with right k))

  forth : (k : Key) (d : Difference) → entry k ≡ some d → Differs left right d
  unfolding entry_for which_of in_both when
  forth k d e = at (record_with left k) refl (record_with right k) refl e
    where
      at : (a : Option ℕ) → record_with left k ≡ a → (b : Option ℕ) → record_with right k ≡ b → entry_for k (which_of left right a b) ≡ some d → Differs left right d
      at none f none g q = let z : ◌≡◌ {A = ℕ} 0 1 = cc in absurd (omega arith)
      at (some i) f none g q =
          let z : ◌≡◌ {A = Difference} (record { key = k; which = left_only }) d = cc in
          subst (Differs left right) z (only_left (find_has left k f) ((find_none right k).0 g))
      at none f (some j) g q =
          let z : ◌≡◌ {A = Difference} (record { key = k; which = right_only }) d = cc in
          subst (Differs left right) z (only_right ((find_none left k).0 f) (find_has right k g))
      at (some i) f (some j) g q = side (same (bytes_of left i) (bytes_of right j)) refl q
        where
          side : (t : Bool) → same (bytes_of left i) (bytes_of right j) ≡ t → entry_for k (in_both t) ≡ some d → Differs left right d
          side true s u = let z : ◌≡◌ {A = ℕ} 0 1 = cc in absurd (omega arith)
          side false s u =
              let z : ◌≡◌ {A = Difference} (record { key = k; which = both_other }) d = cc in
              subst (Differs left right) z (other_bytes (find_has left k f) (find_has right k g) ((fails _ (same_exactly _ _)).0 s))

  back : (d : Difference) → Differs left right d → entry d.key ≡ some d
  unfolding entry_for which_of in_both when
  back _ (only_left {k = k} h l) = rw (find_at left k bl al h, (find_none right k).1 l)
  back _ (only_right {k = k} l h) = rw ((find_none left k).1 l, find_at right k br ar h)
  back _ (other_bytes {k = k} h g o) = rw (find_at left k bl al h, find_at right k br ar g) (at _ ((fails _ (same_exactly _ _)).1 o))
    where
      at : (t : Bool) → t ≡ false → entry_for k (in_both t) ≡ some (record { key = k; which = both_other })
      at false e = refl
      at true e = absurd (false≢true (sym e))

  -- the four numbers of a listed key are those of a record
  small : (d : Difference) → Differs left right d → Small d.key
  small _ (only_left {i = i} h l) = subst Small h.has (key_small left bl i)
  small _ (only_right {j = j} l h) = subst Small h.has (key_small right br j)
  small _ (other_bytes {i = i} h g o) = subst Small h.has (key_small left bl i)

  -- an entry has its own key
  own_key : (k : Key) (w : Option ℕ) (d : Difference) → entry_for k w ≡ some d → k ≡ d.key
  unfolding entry_for
  own_key k none d e = let z : ◌≡◌ {A = ℕ} 0 1 = cc in absurd (omega arith)
  own_key k (some w) d e = let z : ◌≡◌ {A = Difference} (record { key = k; which = w }) d = cc in ap (λ (x : Difference). x.key) z

  pub lists_exactly : ListOf DifferenceBelow (Differs left right) (differences left right)
  unfolding differences difference_at
  lists_exactly =
      record {
        exactly = λ d. (
          λ m. let p = (in_list (difference_at left right) d key_count).0 m in forth (key_numbered p.0) d p.2,
          λ x.
              let s = small d x in
              (in_list (difference_at left right) d key_count).1 (packed d.key, packed_below d.key s, rw (packed_numbered d.key s) (back d x)),
        );
        rising = rises (difference_at left right) key_count (λ j k d e l m f g. at j k d e l m f g);
      }
    where
      at : (j k : ℕ) (d e : Difference) → j < k → k < key_count → difference_at left right j ≡ some d → difference_at left right k ≡ some e → DifferenceBelow d e
      at j k d e l m f g =
          let a : key_numbered j ≡ d.key = own_key _ _ d f in
          let b : key_numbered k ≡ e.key = own_key _ _ e g in
          let o = (packed_order (numbered_small j (omega arith)) (numbered_small k m)).0 (rw (numbered_packed j, numbered_packed k) l) in
          rw (a, b) at o

-- a table does not differ from itself: a key stands in one record, which has one string
pub none_of_itself : (t : List ℕ) → Bytes t → faults t ≡ none → differences t t ≡ []
none_of_itself t b a = none_so (differences t t) (lists_exactly t t b b a a) never
  where
    never : (d : Difference) → Differs t t d → ⊥
    never _ (only_left {i = i} h l) = l i h
    never _ (only_right {j = j} l h) = l j h
    never _ (other_bytes {k = k} {i = i} {j = j} h g o) = let z : i ≡ j = some-injective i j (sym (find_at t k b a h) ∙ find_at t k b a g) in o (ap (bytes_of t) z)

-- What stands in the room once the fields are stored, by induction on the fields: a field ends where the next one starts, so a later store leaves it
-- alone, and the fields that a version has lie within its size.
-- Assumes nothing.
use Prim.Native.Nat.{ℕ, zero, suc, ◌+◌, ◌^◌, ◌<◌, ◌≤◌}
use mathlib.Core.Path.{◌≡◌, refl, sym, ap, ◌∙◌}
use mathlib.Core.Logic.{inl, inr, ◌↔◌}
use mathlib.Core.Bool.{true}
use mathlib.Core.List.{List, ◌++◌}
use native.Mathlib.Nat.{le_trans}
use native.Mathlib.Decide.{dec_lt, ℕ_discrete}
use native.Mathlib.Omega.{arith}
use lib.Arith.{digits_div, digits_mod}
use lib.ListN.{length, get_or, set, take, drop, length-drop, get_or-append}
use lib.Seq.{get_or-set_same, get_or-set_other, get_or-take, get_or-drop, length-take-le, ext_get_or}
use lib.IntN.{ℤ}
use Rattle.outcomes.proofs.Tests.{at_most, fails}
use Rattle.level.specs.Levels.{newest}
use Rattle.level.specs.Sizes.{table_size}
use Rattle.level.proofs.Laws.{size_rises}
use Rattle.bigendian.specs.Numbers.{number, stored, Bytes}
use Rattle.bigendian.proofs.Laws.{number_same, stored_length, stored_elsewhere, number_elsewhere, number_stored}
use Rattle.os2_fields.specs.Catalogue.{field_count, field_of}
use Rattle.os2_fields.specs.Fields.{raw_in, raw}
use Rattle.os2_fields.proofs.Tiling.{start, offset_is, before, last, inside, outside}
use Rattle.os2_store.specs.Writing.{code_for, has, image, InVersion, Holds}

-- ---- numbers in lists

-- a number in the first n bytes of a list, whatever follows them
number_front : (k n : ℕ) (s rest : List ℕ) (at : ℕ) → at + k ≤ n → n ≤ length s → number k (take n s ++ rest) at ≡ number k s at
number_front k n s rest at h l =
    number_same k (take n s ++ rest) s at at (λ i g. get_or-append (take n s) rest 0 (at + i) (rw (length-take-le n s l) (omega arith)) ∙ get_or-take n s (at + i) 0 (omega arith))

-- a number stored where it was read in another list puts that list's bytes there
stored_copy : (k : ℕ) (s b : List ℕ) (at i : ℕ) → Bytes b → at + k ≤ length s → at ≤ i → i < at + k → get_or (stored k s at (number k b at)) i 0 ≡ get_or b i 0
unfolding number stored
stored_copy zero s b at i y h l m = absurd (omega arith)
stored_copy (suc k) s b at i y h l m =
    rw (digits_div (number k b at) (y (at + k)), digits_mod (number k b at) (y (at + k)))
    (here (ℕ_discrete i (at + k)) (λ g. stored_copy k s b at i y (omega arith) l g))
  where
    here : Dec (i ≡ at + k) → (i < at + k → get_or (stored k s at (number k b at)) i 0 ≡ get_or b i 0) → get_or (set (stored k s at (number k b at)) (at + k) (get_or b (at + k) 0)) i 0 ≡ get_or b i 0
    here (yes e) r = rw e (get_or-set_same (stored k s at (number k b at)) (at + k) (get_or b (at + k) 0) 0 (rw (stored_length k s at (number k b at)) (omega arith)))
    here (no e) r = get_or-set_other (stored k s at (number k b at)) (at + k) i (get_or b (at + k) 0) 0 e ∙ r (omega arith)

-- ---- the room

-- the fields fill the size of the newest version
pub full : start field_count ≡ table_size newest
unfolding start
full = ap (λ (n : ℕ). n + (field_of 47).width) (sym (offset_is 47 (omega arith))) ∙ last

pub has_exactly : (v k : ℕ) → (has v k ≡ true) ↔ ((field_of k).since ≤ v)
unfolding has
has_exactly v k = at_most (field_of k).since v

module _ (v : ℕ) (xs : List ℤ) (room : List ℕ) where
  pub image_has : (n : ℕ) → (field_of n).since ≤ v → image v xs room (suc n) ≡ stored (field_of n).width (image v xs room n) (field_of n).offset (code_for xs n)
  unfolding image
  image_has n h = rw ((has_exactly v n).1 h)

  pub image_lacks : (n : ℕ) → v < (field_of n).since → image v xs room (suc n) ≡ image v xs room n
  unfolding image
  image_lacks n h = rw ((fails (has v n) (has_exactly v n)).1 (λ l. omega arith))

  pub image_length : (n : ℕ) → length (image v xs room n) ≡ length room
  image_length zero = unfold image in refl
  image_length (suc n) = at (dec_lt v (field_of n).since) (image_length n)
    where
      at : Dec (v < (field_of n).since) → length (image v xs room n) ≡ length room → length (image v xs room (suc n)) ≡ length room
      at (yes h) r = rw (image_lacks n h) r
      at (no h) r = rw (image_has n (omega arith)) (stored_length (field_of n).width (image v xs room n) (field_of n).offset (code_for xs n) ∙ r)

  -- a byte from the version's size on is what it was
  image_past : (n i : ℕ) → n ≤ field_count → table_size v ≤ i → get_or (image v xs room n) i 0 ≡ get_or room i 0
  image_past zero i h l = unfold image in refl
  image_past (suc n) i h l = at (dec_lt v (field_of n).since) (image_past n i (omega arith) l)
    where
      at : Dec (v < (field_of n).since) → get_or (image v xs room n) i 0 ≡ get_or room i 0 → get_or (image v xs room (suc n)) i 0 ≡ get_or room i 0
      at (yes g) r = rw (image_lacks n g) r
      at (no g) r =
          rw (image_has n (omega arith))
          (stored_elsewhere (field_of n).width (image v xs room n) (field_of n).offset (code_for xs n) i (inr (le_trans (inside n v h (omega arith)) l)) ∙ r)

  pub image_rest : drop (table_size v) (image v xs room field_count) ≡ drop (table_size v) room
  image_rest =
      ext_get_or 0 (drop (table_size v) (image v xs room field_count)) (drop (table_size v) room)
      (length-drop (table_size v) (image v xs room field_count) ∙ (rw (image_length field_count) (sym (length-drop (table_size v) room))))
      (λ i h. get_or-drop (table_size v) (image v xs room field_count) i 0 ∙ (image_past field_count (table_size v + i) (omega arith) (omega arith) ∙ sym (get_or-drop (table_size v) room i 0)))

  module _ (long : table_size v ≤ length room) where
    -- a field that the version has holds its number
    image_raw : (n k : ℕ) → n ≤ field_count → k < n → (field_of k).since ≤ v → code_for xs k < 256 ^ (field_of k).width → raw (image v xs room n) k ≡ code_for xs k
    unfolding raw_in
    image_raw zero k h l s c = absurd (omega arith)
    image_raw (suc n) k h l s c = at (ℕ_discrete k n) (dec_lt v (field_of n).since) (λ m. image_raw n k (omega arith) m s c)
      where
        at : Dec (k ≡ n) → Dec (v < (field_of n).since) → (k < n → raw (image v xs room n) k ≡ code_for xs k) → raw (image v xs room (suc n)) k ≡ code_for xs k
        at (yes e) d r =
            rw (← e, image_has k s)
            (number_stored (field_of k).width (image v xs room k) (field_of k).offset (code_for xs k) (rw (image_length k) (le_trans (inside k v (omega arith) s) long)) c)
        at (no e) (yes g) r = rw (image_lacks n g) (r (omega arith))
        at (no e) (no g) r =
            rw (image_has n (omega arith))
            (number_elsewhere (field_of k).width (field_of n).width (image v xs room n) (field_of n).offset (field_of k).offset (code_for xs n) (inl (before k n (omega arith) h)) ∙ r (omega arith))

    -- and so it does in the version's size, whatever follows
    pub front_raw : (rest : List ℕ) (k : ℕ) → InVersion v k → code_for xs k < 256 ^ (field_of k).width → raw (take (table_size v) (image v xs room field_count) ++ rest) k ≡ code_for xs k
    unfolding raw_in
    front_raw rest k h c =
        number_front (field_of k).width (table_size v) (image v xs room field_count) rest (field_of k).offset (inside k v h.0 h.1) (rw (image_length field_count) long)
        ∙ image_raw field_count k (omega arith) h.0 h.1 c

    -- the numbers of another table's fields put that table's bytes there
    module _ (b : List ℕ) (bytes : Bytes b) (same : (k : ℕ) → InVersion v k → code_for xs k ≡ raw b k) where
      image_byte : (n i : ℕ) → n ≤ field_count → i < start n → i < table_size v → get_or (image v xs room n) i 0 ≡ get_or b i 0
      unfolding start raw_in
      image_byte zero i h l m = absurd (omega arith)
      image_byte (suc n) i h l m = at (dec_lt v (field_of n).since) (dec_lt i (start n)) (λ g. image_byte n i (omega arith) g m)
        where
          o : (field_of n).offset ≡ start n
          o = offset_is n h

          at : Dec (v < (field_of n).since) → Dec (i < start n) → (i < start n → get_or (image v xs room n) i 0 ≡ get_or b i 0) → get_or (image v xs room (suc n)) i 0 ≡ get_or b i 0
          at (yes g) d r = rw (image_lacks n g) (r (omega (arith, o, outside n v h g)))
          at (no g) (yes d) r =
              rw (image_has n (omega arith))
              (stored_elsewhere (field_of n).width (image v xs room n) (field_of n).offset (code_for xs n) i (inl (omega (arith, o))) ∙ r d)
          at (no g) (no d) r =
              let fit = le_trans (inside n v h (omega arith)) long in
              rw (image_has n (omega arith), same n (h, omega arith))
              (stored_copy (field_of n).width (image v xs room n) b (field_of n).offset i bytes (rw (image_length n) fit) (omega (arith, o)) (omega (arith, o)))

      pub image_holds : v ≤ newest → table_size v ≤ length b → Holds v b room (image v xs room field_count)
      image_holds h l = (
        ext_get_or 0 (take (table_size v) (image v xs room field_count)) (take (table_size v) b)
            (length-take-le (table_size v) (image v xs room field_count) (rw (image_length field_count) long) ∙ sym (length-take-le (table_size v) b l))
            (λ i g. byte i (rw (length-take-le (table_size v) (image v xs room field_count) (rw (image_length field_count) long)) at g)),
        image_rest,
      )
        where
          byte : (i : ℕ) → i < table_size v → get_or (take (table_size v) (image v xs room field_count)) i 0 ≡ get_or (take (table_size v) b) i 0
          byte i g =
              get_or-take (table_size v) (image v xs room field_count) i 0 g
              ∙ (image_byte field_count i (omega arith) (omega (arith, full, size_rises v 5 h)) g ∙ sym (get_or-take (table_size v) b i 0 g))

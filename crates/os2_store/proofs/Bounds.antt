-- What the writer writes depends on the numbers of the version's fields alone, and not on what the room held: by induction on the fields.
-- Assumes nothing.
use Prim.Native.Nat.{ℕ, zero, suc, ◌+◌, ◌/◌, ◌%◌, ◌<◌, ◌≤◌}
use mathlib.Core.Path.{◌≡◌, refl, sym, ap, ◌∙◌}
use mathlib.Core.Logic.{inl}
use mathlib.Core.Bool.{Bool, true, false, cond, not, ◌&&◌}
use mathlib.Core.List.{List}
use native.Mathlib.Nat.{le_trans}
use native.Mathlib.Decide.{dec_lt, ℕ_discrete}
use native.Mathlib.Omega.{arith}
use lib.ListN.{length, get_or, set, take}
use lib.Seq.{get_or-set_same, get_or-set_other, get_or-take, length-take-le, ext_get_or}
use lib.IntN.{ℤ, pos}
use Rattle.outcomes.specs.Firsts.{when, first_among}
use Rattle.outcomes.specs.Outcomes.{carrying}
use Rattle.outcomes.proofs.Laws.{first_same}
use Rattle.level.specs.Levels.{newest}
use Rattle.level.specs.Sizes.{table_size}
use Rattle.level.proofs.Laws.{size_rises}
use Rattle.bigendian.specs.Numbers.{stored}
use Rattle.bigendian.proofs.Laws.{stored_length, stored_elsewhere}
use Rattle.os2_fields.specs.Catalogue.{catalogue, field_count, field_of}
use Rattle.os2_fields.specs.Fields.{values_of}
use Rattle.os2_fields.proofs.Tiling.{start, offset_is, inside, outside}
use Rattle.os2_store.specs.Writing.{number_for, fits, code_for, version_for, has, misfit, misfit_at, unwritten, write, image, room_after, InVersion, WritesAll, LooksAtNoOther}
use Rattle.os2_store.proofs.Images.{has_exactly, image_has, image_lacks, image_length, full}
use Rattle.os2_store.proofs.Writings.{success, room_written, code_version, known_most, values_of_same}

-- ---- every byte of the table is written

-- a number stored at one place of two lists puts the same bytes there
stored_same : (k : ℕ) (s r : List ℕ) (at n i : ℕ) → at + k ≤ length s → at + k ≤ length r → at ≤ i → i < at + k → get_or (stored k s at n) i 0 ≡ get_or (stored k r at n) i 0
unfolding stored
stored_same zero s r at n i h g l m = absurd (omega arith)
stored_same (suc k) s r at n i h g l m = here (ℕ_discrete i (at + k)) (λ d. stored_same k s r at (n / 256) i (omega arith) (omega arith) l d)
  where
    last : (x : List ℕ) → at + suc k ≤ length x → get_or (set (stored k x at (n / 256)) (at + k) (n % 256)) (at + k) 0 ≡ n % 256
    last x e = get_or-set_same (stored k x at (n / 256)) (at + k) (n % 256) 0 (rw (stored_length k x at (n / 256)) (omega arith))

    here : Dec (i ≡ at + k) → (i < at + k → get_or (stored k s at (n / 256)) i 0 ≡ get_or (stored k r at (n / 256)) i 0) →
        get_or (set (stored k s at (n / 256)) (at + k) (n % 256)) i 0 ≡ get_or (set (stored k r at (n / 256)) (at + k) (n % 256)) i 0
    here (yes e) f = rw e (last s h ∙ sym (last r g))
    here (no e) f =
        get_or-set_other (stored k s at (n / 256)) (at + k) i (n % 256) 0 e
        ∙ (f (omega arith) ∙ sym (get_or-set_other (stored k r at (n / 256)) (at + k) i (n % 256) 0 e))

module _ (v : ℕ) (xs : List ℤ) (r s : List ℕ) (long : table_size v ≤ length r) (long' : table_size v ≤ length s) where
  image_same : (n i : ℕ) → n ≤ field_count → i < start n → i < table_size v → get_or (image v xs r n) i 0 ≡ get_or (image v xs s n) i 0
  unfolding start
  image_same zero i h l m = absurd (omega arith)
  image_same (suc n) i h l m = at (dec_lt v (field_of n).since) (dec_lt i (start n)) (λ g. image_same n i (omega arith) g m)
    where
      o : (field_of n).offset ≡ start n
      o = offset_is n h

      at : Dec (v < (field_of n).since) → Dec (i < start n) → (i < start n → get_or (image v xs r n) i 0 ≡ get_or (image v xs s n) i 0) →
          get_or (image v xs r (suc n)) i 0 ≡ get_or (image v xs s (suc n)) i 0
      at (yes g) d f = rw (image_lacks v xs r n g, image_lacks v xs s n g) (f (omega (arith, o, outside n v h g)))
      at (no g) (yes d) f =
          rw (image_has v xs r n (omega arith), image_has v xs s n (omega arith))
          (stored_elsewhere (field_of n).width (image v xs r n) (field_of n).offset (code_for xs n) i (inl (omega (arith, o)))
          ∙ (f d ∙ sym (stored_elsewhere (field_of n).width (image v xs s n) (field_of n).offset (code_for xs n) i (inl (omega (arith, o))))))
      at (no g) (no d) f =
          let w = inside n v h (omega arith) in
          rw (image_has v xs r n (omega arith), image_has v xs s n (omega arith))
          (stored_same (field_of n).width (image v xs r n) (image v xs s n) (field_of n).offset (code_for xs n) i
          (rw (image_length v xs r n) (le_trans w long)) (rw (image_length v xs s n) (le_trans w long')) (omega (arith, o)) (omega (arith, o)))

  fronts_same : v ≤ newest → take (table_size v) (image v xs r field_count) ≡ take (table_size v) (image v xs s field_count)
  fronts_same h =
      ext_get_or 0 (take (table_size v) (image v xs r field_count)) (take (table_size v) (image v xs s field_count)) (size r long ∙ sym (size s long'))
      (λ i g. byte i (rw (size r long) at g))
    where
      size : (q : List ℕ) → table_size v ≤ length q → length (take (table_size v) (image v xs q field_count)) ≡ table_size v
      size q l = length-take-le (table_size v) (image v xs q field_count) (rw (image_length v xs q field_count) l)

      byte : (i : ℕ) → i < table_size v → get_or (take (table_size v) (image v xs r field_count)) i 0 ≡ get_or (take (table_size v) (image v xs s field_count)) i 0
      byte i g =
          get_or-take (table_size v) (image v xs r field_count) i 0 g
          ∙ (image_same field_count i (omega arith) (omega (arith, full, size_rises v newest h)) g ∙ sym (get_or-take (table_size v) (image v xs s field_count) i 0 g))

pub writes_all : WritesAll write room_after
writes_all xs r s m n d e =
    let a = success xs (length r) m d in
    let b = success xs (length s) n e in (
      a.size ∙ sym b.size,
      rw (a.size, b.size, room_written xs r m d, room_written xs s n e) (fronts_same (version_for xs) xs r s a.long b.long (known_most xs a.versioned)),
    )

-- ---- numbers for fields that the version lacks are not looked at

module _ (xs ys : List ℤ) (v : ℕ) (own : number_for xs 0 ≡ pos v) (same : (k : ℕ) → InVersion v k → number_for xs k ≡ number_for ys k) where
  code_same : (k : ℕ) → InVersion v k → code_for xs k ≡ code_for ys k
  code_same k h = rw (same k h)

  first_same_number : number_for xs 0 ≡ number_for ys 0
  unfolding field_of catalogue
  first_same_number = same 0 (omega arith, omega arith)

  version_xs : version_for xs ≡ v
  version_xs = code_version xs v own

  version_ys : version_for ys ≡ v
  version_ys = code_version ys v (sym first_same_number ∙ own)

  misfits_same : first_among (misfit_at v xs) field_count ≡ first_among (misfit_at v ys) field_count
  unfolding misfit
  misfits_same = first_same (misfit_at v xs) (misfit_at v ys) field_count (λ k h. ap (λ (t : Bool). when t (carrying 8 k)) (at k h (has v k) refl))
    where
      at : (k : ℕ) → k < field_count → (t : Bool) → has v k ≡ t → (t && not (fits (field_of k) (number_for xs k))) ≡ (t && not (fits (field_of k) (number_for ys k)))
      at k h true e = rw (same k (h, (has_exactly v k).0 e))
      at k h false e = refl

  images_same : (r : List ℕ) (n : ℕ) → n ≤ field_count → image v xs r n ≡ image v ys r n
  unfolding image
  images_same r zero h = refl
  images_same r (suc n) h = rw (images_same r n (omega arith)) (at (has v n) refl)
    where
      at : (t : Bool) → has v n ≡ t →
          cond t (stored (field_of n).width (image v ys r n) (field_of n).offset (code_for xs n)) (image v ys r n)
          ≡ cond t (stored (field_of n).width (image v ys r n) (field_of n).offset (code_for ys n)) (image v ys r n)
      at true e = rw (code_same n (h, (has_exactly v n).0 e))
      at false e = refl

  writes_same : (r : ℕ) → write xs r ≡ write ys r
  unfolding write unwritten
  writes_same r = rw (version_xs, version_ys, misfits_same, values_alike, first_same_number)
    where
      values_alike : values_of (code_for xs) ≡ values_of (code_for ys)
      values_alike = values_of_same v (code_for xs) (code_for ys) code_same version_xs

pub looks_at_no_other : LooksAtNoOther write room_after
unfolding room_after
looks_at_no_other xs ys v own same r = (
  writes_same xs ys v own same (length r),
  rw (writes_same xs ys v own same (length r), version_xs xs ys v own same, version_ys xs ys v own same, images_same xs ys v own same r field_count (omega arith)),
)

-- Facts of the catalogue at every field, from tests that antt computes over all 48.
-- Assumes nothing.
use Prim.Native.Nat.{ℕ, zero, suc, ◌+◌, ◌-◌, ◌<◌, ◌≤◌, zero-le}
use mathlib.Core.Path.{◌≡◌, refl, sym, ap, ◌∙◌}
use mathlib.Core.Logic.{inl, inr}
use mathlib.Core.Bool.{Bool, true, false, cond, ◌&&◌, ◌||◌, false≢true}
use mathlib.Core.List.{List}
use native.Mathlib.Nat.{le_refl, le_trans}
use native.Mathlib.Decide.{ℕ_discrete}
use native.Mathlib.Omega.{arith}
use lib.Dec.{ltb, eqb}
use lib.ListN.{length, take}
use borrow.Author.Tests.{lt-ltb, ltb-false}
use Rattle.outcomes.specs.Firsts.{when, ◌then◌, first_among}
use Rattle.outcomes.proofs.Laws.{none_exactly}
use Rattle.outcomes.proofs.Tests.{not_below, or_false, and_false}
use Rattle.level.specs.Sizes.{table_size}
use Rattle.level.proofs.Laws.{size_rises}
use Rattle.bigendian.proofs.Laws.{number_take}
use Rattle.os2_fields.specs.Catalogue.{catalogue, field_of}
use Rattle.os2_fields.specs.Fields.{raw_in, value_in, raw, optical_size, values_of}
use Rattle.os2_fields.specs.Reading.{Wide, Sound, Lies, Word}

-- the bytes of the fields before field k
unfoldable pub start : ℕ → ℕ
start zero = 0
start (suc k) = start k + (field_of k).width

-- ---- tests that find nothing at any field; antt computes each over all 48

-- a field starts where the one before it ends
misplaced : (k : ℕ) → k < 48 → (ltb (field_of k).offset (start k) || ltb (start k) (field_of k).offset) ≡ false
unfolding field_of catalogue start first_among ◌then◌ when
misplaced = (none_exactly (λ k. ltb (field_of k).offset (start k) || ltb (start k) (field_of k).offset) (λ k. k) 48).0 refl

-- it is 1, 2 or 4 bytes wide, and 2 where it is signed
odd : (k : ℕ) → k < 48 → (ltb (field_of k).width 1 || (eqb (field_of k).width 3 || ltb 4 (field_of k).width)) ≡ false
unfolding field_of catalogue first_among ◌then◌ when
odd = (none_exactly (λ k. ltb (field_of k).width 1 || (eqb (field_of k).width 3 || ltb 4 (field_of k).width)) (λ k. k) 48).0 refl

missigned : (k : ℕ) → k < 48 → ((field_of k).signed && (ltb (field_of k).width 2 || ltb 2 (field_of k).width)) ≡ false
unfolding field_of catalogue first_among ◌then◌ when
missigned = (none_exactly (λ k. (field_of k).signed && (ltb (field_of k).width 2 || ltb 2 (field_of k).width)) (λ k. k) 48).0 refl

-- it ends within the size of its first version, and starts past the size of every version before that
passing : (k : ℕ) → k < 48 → ltb (table_size (field_of k).since) ((field_of k).offset + (field_of k).width) ≡ false
unfolding field_of catalogue table_size first_among ◌then◌ when
passing = (none_exactly (λ k. ltb (table_size (field_of k).since) ((field_of k).offset + (field_of k).width)) (λ k. k) 48).0 refl

early : (k : ℕ) → k < 48 → (ltb 0 (field_of k).since && ltb (field_of k).offset (table_size ((field_of k).since - 1))) ≡ false
unfolding field_of catalogue table_size first_among ◌then◌ when
early = (none_exactly (λ k. ltb 0 (field_of k).since && ltb (field_of k).offset (table_size ((field_of k).since - 1))) (λ k. k) 48).0 refl

-- it came in no later than the field after it
disordered : (k : ℕ) → k < 47 → ltb (field_of (suc k)).since (field_of k).since ≡ false
unfolding field_of catalogue first_among ◌then◌ when
disordered = (none_exactly (λ k. ltb (field_of (suc k)).since (field_of k).since) (λ k. k) 47).0 refl

-- ---- the fields adjoin from 0 on, and those of a version fill its size

-- a field starts where those before it end
pub offset_is : (k : ℕ) → k < 48 → (field_of k).offset ≡ start k
offset_is k h =
    let o = (or_false (ltb (field_of k).offset (start k)) (ltb (start k) (field_of k).offset)).0 (misplaced k h) in
    omega (arith, (not_below (field_of k).offset (start k)).0 o.0, (not_below (start k) (field_of k).offset).0 o.1)

pub adjoin : (k : ℕ) → k < 47 → (field_of (suc k)).offset ≡ (field_of k).offset + (field_of k).width
unfolding start
adjoin k h = offset_is (suc k) (omega arith) ∙ ap (λ (n : ℕ). n + (field_of k).width) (sym (offset_is k (omega arith)))

-- an earlier field ends before a later one starts
pub before : (j k : ℕ) → j < k → k < 48 → (field_of j).offset + (field_of j).width ≤ (field_of k).offset
before j zero h l = absurd (omega arith)
before j (suc k) h l = at (ℕ_discrete j k) (λ m. before j k m (omega arith))
  where
    at : Dec (j ≡ k) → (j < k → (field_of j).offset + (field_of j).width ≤ (field_of k).offset) → (field_of j).offset + (field_of j).width ≤ (field_of (suc k)).offset
    at (yes e) r = rw e (omega (arith, adjoin k (omega arith)))
    at (no e) r = omega (arith, adjoin k (omega arith), r (omega arith))

pub first : (field_of 0).offset ≡ 0
unfolding field_of catalogue
first = refl

pub last : (field_of 47).offset + (field_of 47).width ≡ table_size 5
unfolding field_of catalogue table_size
last = refl

-- a field that a version has ends within the version's size
pub inside : (k v : ℕ) → k < 48 → (field_of k).since ≤ v → (field_of k).offset + (field_of k).width ≤ table_size v
inside k v h s = le_trans ((not_below _ _).0 (passing k h)) (size_rises (field_of k).since v s)

-- a field that a version lacks starts past the version's size
pub outside : (k v : ℕ) → k < 48 → v < (field_of k).since → table_size v ≤ (field_of k).offset
outside k v h s =
    let past = (and_false (ltb 0 (field_of k).since) (ltb (field_of k).offset (table_size ((field_of k).since - 1)))).0 (early k h) (lt-ltb 0 (field_of k).since (omega arith)) in
    le_trans (size_rises v ((field_of k).since - 1) (omega arith)) ((not_below (field_of k).offset (table_size ((field_of k).since - 1))).0 past)

-- the last field that a version has ends where the version's size does
pub fills : (k v : ℕ) → k < 47 → (field_of k).since ≤ v → v < (field_of (suc k)).since → (field_of k).offset + (field_of k).width ≡ table_size v
fills k v h s l = omega (arith, inside k v (omega arith) s, outside (suc k) v (omega arith) l, adjoin k h)

-- a field has 1, 2 or 4 bytes, a signed one has two
pub sign_width : (k : ℕ) → k < 48 → (field_of k).signed ≡ true → (field_of k).width ≡ 2
sign_width k h e =
    let o = (or_false (ltb (field_of k).width 2) (ltb 2 (field_of k).width)).0 ((and_false (field_of k).signed (ltb (field_of k).width 2 || ltb 2 (field_of k).width)).0 (missigned k h) e) in
    omega (arith, (not_below (field_of k).width 2).0 o.0, (not_below 2 (field_of k).width).0 o.1)

pub sound_is : (k : ℕ) → k < 48 → Sound (field_of k)
sound_is k h = record { wide = wide (field_of k).width (odd k h); signs = sign_width k h }
  where
    wide : (n : ℕ) → (ltb n 1 || (eqb n 3 || ltb 4 n)) ≡ false → Wide n
    wide zero e = absurd (false≢true (sym e))
    wide (suc zero) e = inl refl
    wide (suc (suc zero)) e = inr (inl refl)
    wide (suc (suc (suc zero))) e = absurd (false≢true (sym e))
    wide (suc (suc (suc (suc zero)))) e = inr (inr refl)
    wide (suc (suc (suc (suc (suc n))))) e =
        let m : ℕ = suc (suc (suc (suc (suc n)))) in
        absurd (omega (arith, (not_below 4 m).0 ((or_false (eqb m 3) (ltb 4 m)).0 ((or_false (ltb m 1) (eqb m 3 || ltb 4 m)).0 e).1).1))

-- a later field came in no earlier
pub since_rises : (j k : ℕ) → j ≤ k → k < 48 → (field_of j).since ≤ (field_of k).since
since_rises j zero h l = let e : j ≡ 0 = omega arith in rw e (le_refl (field_of 0).since)
since_rises j (suc k) h l = at (ℕ_discrete j (suc k)) (λ m. le_trans (since_rises j k m (omega arith)) ((not_below _ _).0 (disordered k (omega arith))))
  where
    at : Dec (j ≡ suc k) → (j ≤ k → (field_of j).since ≤ (field_of (suc k)).since) → (field_of j).since ≤ (field_of (suc k)).since
    at (yes e) r = rw e (le_refl (field_of (suc k)).since)
    at (no e) r = r (omega arith)

-- in a table of a version's size, a field that the version has can be read
pub lies : (b : List ℕ) (k v : ℕ) → k < 48 → (field_of k).since ≤ v → table_size v ≤ length b → Lies b (field_of k)
lies b k v h s l =
    record {
      inside = le_trans (inside k v h s) l;
      sound = sound_is k h;
    }

-- the same of a field of two bytes
pub word : (b : List ℕ) (k v : ℕ) → k < 48 → (field_of k).width ≡ 2 → (field_of k).since ≤ v → table_size v ≤ length b → Word b (field_of k)
word b k v h w s l = record { lies = lies b k v h s l; two = w }

-- two bytes are enough for the version
pub version_word : (b : List ℕ) → 2 ≤ length b → Word b (field_of 0)
unfolding field_of catalogue
version_word b h = record { lies = record { inside = h; sound = sound_is 0 (omega arith) }; two = refl }

-- the Unicode ranges came in with version 0, the code pages with version 1
pub range_since : (n : ℕ) → n < 4 → (field_of (26 + n)).since ≡ 0
unfolding field_of catalogue
range_since n h = omega (arith, since_rises (26 + n) 29 (omega arith) (omega arith))

pub page_since : (n : ℕ) → n < 2 → (field_of (39 + n)).since ≡ 1
unfolding field_of catalogue
page_since n h = omega (arith, since_rises 39 (39 + n) (omega arith) (omega arith), since_rises (39 + n) 40 (omega arith) (omega arith))

-- ---- a table's first bytes

module _ (b : List ℕ) (v : ℕ) where
  -- a field that version v has reads the same in the first bytes, up to that version's size
  pub raw_same : (k : ℕ) → k < 48 → (field_of k).since ≤ v → raw (take (table_size v) b) k ≡ raw b k
  unfolding raw_in
  raw_same k h s = number_take (field_of k).width (table_size v) b (field_of k).offset (inside k v h s)

  pub value_same : (k : ℕ) → k < 48 → (field_of k).since ≤ v → value_in (take (table_size v) b) (field_of k) ≡ value_in b (field_of k)
  unfolding value_in
  value_same k h s = rw (raw_same k h s)

-- numbers that agree on the fields of their version give the rules the same values
module _ (f g : ℕ → ℕ) (same : (k : ℕ) → k < 48 → (field_of k).since ≤ f 0 → f k ≡ g k) where
  first_fields : (k : ℕ) → k < 48 → (field_of k).since ≤ 0 → f k ≡ g k
  first_fields k h s = same k h (le_trans s zero-le)

  late : (k : ℕ) → k < 48 → (field_of k).since ≤ 5 → optical_size (f 0) (f k) ≡ optical_size (f 0) (g k)
  late k h s = at (ltb (f 0) 5) refl
    where
      at : (t : Bool) → ltb (f 0) 5 ≡ t → cond t 0 (f k) ≡ cond t 0 (g k)
      at true e = refl
      at false e = same k h (le_trans s (ltb-false (f 0) 5 e))

  pub values_same : values_of f ≡ values_of g
  unfolding values_of field_of catalogue
  values_same =
      rw (
        first_fields 2 (omega arith) (omega arith),
        first_fields 3 (omega arith) (omega arith),
        first_fields 4 (omega arith) (omega arith),
        first_fields 31 (omega arith) (omega arith),
        late 46 (omega arith) (omega arith),
        late 47 (omega arith) (omega arith),
        first_fields 0 (omega arith) (omega arith),
      )

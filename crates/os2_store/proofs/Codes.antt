-- A whole number that fits a field, and the number that the field's bytes then make: each gives the other, since a signed field has two bytes and
-- the upper half of the numbers of two bytes stands for the negative ones.
-- Assumes nothing.
use Prim.Native.Nat.{ℕ, suc, ◌-◌, ◌/◌, ◌^◌, ◌<◌, ◌≤◌}
use mathlib.Core.Path.{◌≡◌, refl, ap}
use mathlib.Core.Bool.{Bool, true, false, cond, ◌&&◌, false≢true}
use mathlib.Core.List.{List}
use native.Mathlib.Omega.{arith}
use lib.Dec.{ltb}
use lib.IntN.{ℤ, pos, negsuc, ◌-ℤ◌}
use borrow.Author.Tests.{lt-ltb, le-ltb, ltb-true, ltb-false}
use Rattle.bigendian.specs.Numbers.{Bytes}
use Rattle.bigendian.proofs.Laws.{number_fits}
use Rattle.os2_fields.specs.declared.catalogue.Field.{Field}
use Rattle.os2_fields.specs.Fields.{raw_in, signed_of, value_in}
use Rattle.os2_store.specs.Writing.{fits, code_of}

-- a number that fits makes bytes that the field has
pub code_small : (f : Field) (z : ℤ) → fits f z ≡ true → code_of f z < 256 ^ f.width
unfolding fits code_of
code_small f (pos x) = at f.signed
  where
    at : (s : Bool) → ltb x (cond s (256 ^ f.width / 2) (256 ^ f.width)) ≡ true → x < 256 ^ f.width
    at true t = omega (arith, ltb-true x (256 ^ f.width / 2) t)
    at false t = ltb-true x (256 ^ f.width) t
code_small f (negsuc x) = at f.signed
  where
    at : (s : Bool) → (s && ltb x (256 ^ f.width / 2)) ≡ true → 256 ^ f.width - suc x < 256 ^ f.width
    at true t = omega (arith, ltb-true x (256 ^ f.width / 2) t)
    at false t = absurd (false≢true t)

-- a number that is not negative is stored as it is
pub code_plain : (f : Field) (z : ℤ) → f.signed ≡ false → fits f z ≡ true → z ≡ pos (code_of f z)
unfolding fits code_of
code_plain f (pos x) s t = refl
code_plain f (negsuc x) s t = absurd (false≢true (rw s at t))

-- a field's number x, read as the field's sign says
abbrev read_as : Field → ℕ → ℤ
read_as f x = cond f.signed (signed_of f.width x) (pos x)

module _ (f : Field) (signs : f.signed ≡ true → f.width ≡ 2) where
  -- what a number's bytes make is read as that number
  read_code : (z : ℤ) → fits f z ≡ true → read_as f (code_of f z) ≡ z
  unfolding signed_of fits code_of
  read_code = at f.signed refl
    where
      at : (s : Bool) → f.signed ≡ s → (z : ℤ) → fits f z ≡ true → cond s (signed_of f.width (code_of f z)) (pos (code_of f z)) ≡ z
      at true g (pos x) t = let l : ltb x 32768 ≡ true = rw (g, signs g) at t in rw (signs g, l)
      at true g (negsuc x) t =
          let l : ltb x 32768 ≡ true = rw (g, signs g) at t in
          let h : x < 32768 = ltb-true x 32768 l in
          rw (signs g, le-ltb (65536 - suc x) 32768 (omega arith), lt-ltb (65536 - suc x) 65536 (omega arith)) (ap negsuc (omega arith))
      at false g (pos x) t = refl
      at false g (negsuc x) t = absurd (false≢true (rw g at t))

  module _ (x : ℕ) (small : x < 256 ^ f.width) where
    -- a number that was read makes the bytes that it was read from, and fits
    code_of_read : code_of f (read_as f x) ≡ x
    unfolding signed_of code_of
    code_of_read = at f.signed refl
      where
        half : f.width ≡ 2 → (t : Bool) → ltb x 32768 ≡ t → code_of f (cond t (pos x) (pos x -ℤ pos 65536)) ≡ x
        half w true e = refl
        half w false e = let h : x < 65536 = rw w at small in rw (lt-ltb x 65536 h, w) (omega arith)

        at : (s : Bool) → f.signed ≡ s → code_of f (cond s (signed_of f.width x) (pos x)) ≡ x
        at true g = rw (signs g) (rw (signs g) at (half (signs g) (ltb x 32768) refl))
        at false g = refl

    fits_of_read : fits f (read_as f x) ≡ true
    unfolding signed_of fits
    fits_of_read = at f.signed refl
      where
        half : f.signed ≡ true → f.width ≡ 2 → (t : Bool) → ltb x 32768 ≡ t → fits f (cond t (pos x) (pos x -ℤ pos 65536)) ≡ true
        half g w true e = rw (g, w, e)
        half g w false e =
            let h : x < 65536 = rw w at small in
            let l : 32768 ≤ x = ltb-false x 32768 e in
            rw (lt-ltb x 65536 h, g, w) (lt-ltb (65536 - suc x) 32768 (omega arith))

        at : (s : Bool) → f.signed ≡ s → fits f (cond s (signed_of f.width x) (pos x)) ≡ true
        at true g = rw (signs g) (rw (signs g) at (half g (signs g) (ltb x 32768) refl))
        at false g = rw g (lt-ltb x (256 ^ f.width) small)

-- ---- of a field in a table

module _ (b : List ℕ) (f : Field) (signs : f.signed ≡ true → f.width ≡ 2) where
  pub value_coded : (z : ℤ) → fits f z ≡ true → raw_in b f ≡ code_of f z → value_in b f ≡ z
  unfolding value_in
  value_coded z t e = rw e (read_code f signs z t)

  module _ (bytes : Bytes b) where
    small_raw : raw_in b f < 256 ^ f.width
    unfolding raw_in
    small_raw = number_fits f.width b f.offset bytes

    pub code_read : code_of f (value_in b f) ≡ raw_in b f
    unfolding value_in
    code_read = code_of_read f signs (raw_in b f) small_raw

    pub fits_read : fits f (value_in b f) ≡ true
    unfolding value_in
    fits_read = fits_of_read f signs (raw_in b f) small_raw

-- The tests and casts of an i64 in the code, and the definitions that they stand for: each by the number's two forms, at a field as the catalogue has
-- them.
-- Assumes nothing.
use Prim.Native.Nat.{ℕ, suc, ◌%◌, ◌^◌, ◌<◌}
use mathlib.Core.Path.{◌≡◌, refl, sym, ◌∙◌}
use mathlib.Core.Logic.{inl, inr}
use mathlib.Core.Bool.{Bool, true, false, false≢true, true≢false}
use mathlib.Core.List.{List}
use native.Mathlib.Nat.{add-zero}
use native.Mathlib.Omega.{arith}
use lib.Dec.{ltb}
use lib.ListN.{set}
use lib.IntN.{ℤ, pos, negsuc, ◌+ℤ◌}
use lib.Signed.{lt_z, le_z}
use mir.Syntax.{w64}
use mir.Val.{SFits, to_z, of_z}
use mir.Facts.{to_z-of_z}
use borrow.Author.Tests.{lt-ltb, le-ltb, ltb-true, leb-true, leb-false}
use Rattle.bigendian.specs.Numbers.{stored}
use Rattle.os2_fields.specs.declared.catalogue.Field.{Field}
use Rattle.os2_store.specs.Writing.{fits, code_of}
use Rattle.os2_store.proofs.Codes.{code_small, code_plain}
use Rattle.os2_fields.specs.Reading.{Wide, Sound}

-- the register's number back as it was
pub kept : (x : ℤ) → SFits w64 x → to_z w64 (of_z w64 x) ≡ x
kept x h = to_z-of_z h

pub small_fits : (n : ℕ) → n < 2 ^ 32 → SFits w64 (pos n)
small_fits n h = record { sfits = omega arith }

pub top_fits : (n : ℕ) → Wide n → SFits w64 (pos (256 ^ n))
top_fits n (inl e) = rw e (record { sfits = omega arith })
top_fits n (inr (inl e)) = rw e (record { sfits = omega arith })
top_fits n (inr (inr e)) = rw e (record { sfits = omega arith })

-- a number of a field's width is one of 32 bits
pub wide_small : (n x : ℕ) → Wide n → x < 256 ^ n → x < 2 ^ 32
wide_small n x (inl e) h = let g : x < 256 = rw e at h in omega arith
wide_small n x (inr (inl e)) h = let g : x < 65536 = rw e at h in omega arith
wide_small n x (inr (inr e)) h = rw e at h

-- one byte stored
pub stored_1 : (s : List ℕ) (at n : ℕ) → n < 256 → set s at n ≡ stored 1 s at n
unfolding stored
stored_1 s at n h = let e : n % 256 ≡ n = omega arith in rw (add-zero at, e)

-- ---- what fits

module _ (f : Field) where
  pub fits_signed : f.signed ≡ true → f.width ≡ 2 → (x : ℤ) → le_z (negsuc 32767) x ≡ true → lt_z x (pos 32768) ≡ fits f x
  unfolding fits
  fits_signed s w (pos n) e = rw (s, w)
  fits_signed s w (negsuc n) e = rw (s, w) (sym (lt-ltb n 32768 (omega (arith, leb-true n 32767 e))))

  pub under_signed : f.signed ≡ true → f.width ≡ 2 → (x : ℤ) → le_z (negsuc 32767) x ≡ false → le_z (negsuc 32767) x ≡ fits f x
  unfolding fits
  under_signed s w (pos n) e = absurd (true≢false e)
  under_signed s w (negsuc n) e = rw (s, w) (e ∙ sym (le-ltb n 32768 (omega (arith, leb-false n 32767 e))))

  pub fits_plain : f.signed ≡ false → (x : ℤ) → le_z (pos 0) x ≡ true → lt_z x (pos (256 ^ f.width)) ≡ fits f x
  unfolding fits
  fits_plain s (pos n) e = rw s
  fits_plain s (negsuc n) e = absurd (false≢true e)

  pub under_plain : f.signed ≡ false → (x : ℤ) → le_z (pos 0) x ≡ false → le_z (pos 0) x ≡ fits f x
  unfolding fits
  under_plain s (pos n) e = absurd (omega (arith, leb-false 0 n e))
  under_plain s (negsuc n) e = rw s

  -- ---- the code

  module _ (sound : Sound f) (x : ℤ) (fit : fits f x ≡ true) where
    pub code_32 : code_of f x < 2 ^ 32
    code_32 = wide_small f.width (code_of f x) sound.wide (code_small f x fit)

    -- a negative number stands in a signed field
    negative_signed : lt_z x (pos 0) ≡ true → f.signed ≡ true
    negative_signed e = at f.signed refl
      where
        at : (s : Bool) → f.signed ≡ s → s ≡ true
        at true g = refl
        at false g = absurd (omega (arith, ltb-true (code_of f x) 0 (rw (code_plain f x g fit) at e)))

    pub code_negative : lt_z x (pos 0) ≡ true → x +ℤ pos 65536 ≡ pos (code_of f x)
    unfolding fits code_of
    code_negative e = go x fit e (sound.signs (negative_signed e)) (negative_signed e)
      where
        go : (z : ℤ) → fits f z ≡ true → lt_z z (pos 0) ≡ true → f.width ≡ 2 → f.signed ≡ true → z +ℤ pos 65536 ≡ pos (code_of f z)
        go (pos n) t u w s = absurd (omega (arith, ltb-true n 0 u))
        go (negsuc n) t u w s =
            let h : ltb n 32768 ≡ true = rw (s, w) at t in
            rw (w, le-ltb 65536 (suc n) (omega (arith, ltb-true n 32768 h)))

    pub code_positive : lt_z x (pos 0) ≡ false → x ≡ pos (code_of f x)
    unfolding code_of
    code_positive e = go x e
      where
        go : (z : ℤ) → lt_z z (pos 0) ≡ false → z ≡ pos (code_of f z)
        go (pos n) u = refl
        go (negsuc n) u = absurd (true≢false u)

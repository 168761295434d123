-- The tests and casts of an i64 in the code, and the definitions that they stand for: each by the number's two forms.
-- Assumes nothing.
use Prim.Native.Nat.{◌^◌, ◌<◌, ◌≤◌}
use mathlib.Core.Path.{◌≡◌, refl, sym, ap, ◌∙◌}
use mathlib.Core.Bool.{Bool, true, false, true≢false}
use native.Mathlib.Omega.{arith}
use lib.IntN.{ℤ, pos, negsuc, nat_abs}
use lib.Signed.{lt_z}
use mir.Syntax.{w64}
use mir.Val.{SFits, to_z, of_z}
use borrow.Author.Tests.{ltb-true, ltb-false}
use Rattle.level.specs.Levels.{newest}
use Rattle.os2_fields.specs.declared.catalogue.Field.{Field}
use Rattle.os2_store.specs.Writing.{fits, code_of, no_version}
use Rattle.os2_store.proofs.Codes.{code_small}
use Rattle.os2_store.proofs.Signs.{kept}

pub word_small : (f : Field) (z : ℤ) → f.width ≡ 2 → fits f z ≡ true → code_of f z < 65536
word_small f z w t = let e : 256 ^ f.width ≡ 65536 = rw w in omega (arith, code_small f z t)

pub version_under : (x : ℤ) → lt_z x (pos 0) ≡ true → true ≡ no_version x
unfolding no_version
version_under (pos n) e = absurd (omega (arith, ltb-true n 0 e))
version_under (negsuc n) e = refl

pub version_above : (x : ℤ) → lt_z x (pos 0) ≡ false → lt_z (pos newest) x ≡ no_version x
unfolding no_version
version_above (pos n) e = refl
version_above (negsuc n) e = absurd (true≢false e)

pub version_known : (x : ℤ) → SFits w64 x → no_version x ≡ false → (x ≡ pos (nat_abs (to_z w64 (of_z w64 x)))) × (nat_abs (to_z w64 (of_z w64 x)) ≤ newest)
unfolding no_version
version_known x h e = rw (kept x h) (go x e)
  where
    go : (z : ℤ) → no_version z ≡ false → (z ≡ pos (nat_abs z)) × (nat_abs z ≤ newest)
    go (pos n) d = (refl, ltb-false newest n d)
    go (negsuc n) d = absurd (true≢false d)

-- the same once the code's test of a number has failed
pub version_here : (x : ℤ) → SFits w64 x → {t : Bool} → t ≡ no_version (to_z w64 (of_z w64 x)) → t ≡ false →
    (x ≡ pos (nat_abs (to_z w64 (of_z w64 x)))) × (nat_abs (to_z w64 (of_z w64 x)) ≤ newest)
version_here x h e d = version_known x h (ap no_version (sym (kept x h)) ∙ (sym e ∙ d))

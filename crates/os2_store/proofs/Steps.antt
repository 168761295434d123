-- One step of each loop over the fields, over the definitions.
-- Assumes nothing.
use Prim.Native.Nat.{ℕ, zero, suc, ◌<◌, ◌≤◌}
use mathlib.Core.Path.{◌≡◌, ◌∙◌}
use mathlib.Core.Bool.{true}
use mathlib.Core.List.{List}
use native.Mathlib.Nat.{le_trans}
use native.Mathlib.Decide.{ℕ_discrete}
use native.Mathlib.Omega.{arith}
use lib.ListN.{length, get_or}
use lib.IntN.{ℤ}
use Rattle.level.specs.Sizes.{table_size}
use Rattle.os2_fields.specs.declared.catalogue.Field.{Field}
use Rattle.os2_fields.specs.Catalogue.{plain, catalogue, field_count, field_of}
use Rattle.os2_fields.proofs.Tiling.{inside, sound_is, since_rises}
use Rattle.os2_store.specs.Writing.{number_for, fits, code_for, image}
use Rattle.os2_store.proofs.Codes.{code_small}
use Rattle.os2_store.proofs.Writings.{misfits_none}
use Rattle.os2_store.specs.Storing.{Storable, Fitting}
use Rattle.os2_store.proofs.Images.{image_lacks}

-- ---- a field of the catalogue

pub entry_is : (fs : List Field) (k : ℕ) → fs ≡ catalogue → get_or fs k (plain 0 0 0) ≡ field_of k
unfolding field_of
entry_is fs k e = rw e

module _ (v : ℕ) (xs : List ℤ) (fit : Fitting v xs) where
  pub fit_at : (k : ℕ) → k < field_count → (field_of k).since ≤ v → fits (field_of k) (number_for xs k) ≡ true
  fit_at k h s = (misfits_none v xs field_count).0 fit.fitting k h s

  pub storable : (room : List ℕ) → table_size v ≤ length room → (k : ℕ) → k < field_count → (field_of k).since ≤ v → Storable room (field_of k) (code_for xs k)
  storable room l k h s =
      record {
        sound = sound_is k h;
        inside = le_trans (inside k v h s) l;
        small = code_small (field_of k) (number_for xs k) (fit_at k h s);
      }

-- ---- the store

module _ (v : ℕ) (xs : List ℤ) where
  -- a version that lacks a field lacks the later ones
  pub image_stop : (room : List ℕ) (k n : ℕ) → k ≤ n → n ≤ field_count → v < (field_of k).since → image v xs room n ≡ image v xs room k
  image_stop room k zero h l s = let z : k ≡ 0 = omega arith in rw z
  image_stop room k (suc n) h l s = at (ℕ_discrete k (suc n)) (λ m. image_stop room k n m (omega arith) s)
    where
      at : Dec (k ≡ suc n) → (k ≤ n → image v xs room n ≡ image v xs room k) → image v xs room (suc n) ≡ image v xs room k
      at (yes q) r = rw q
      at (no q) r = image_lacks v xs room n (le_trans s (since_rises k n (omega arith) l)) ∙ r (omega arith)

-- The rank of what a slot holds.
-- Assumes nothing.
use Prim.Native.Nat.{ℕ, ◌+◌, ◌<◌, ◌≤◌}
use mathlib.Core.Path.{◌≡◌, refl}
use mathlib.Core.Bool.{true, false, not}
use mathlib.Core.List.{List}
use native.Mathlib.Numerals.{add-one}
use native.Mathlib.Omega.{arith}
use lib.Dec.{eqb}
use lib.ListN.{length, take}
use Rattle.same_bytes.specs.Same.{same}
use Rattle.choice.specs.declared.Want.{Want}
use Rattle.choice.specs.Faces.{Slots}
use Rattle.choice.specs.Ranks.{of_family, best, rank, no_rank, Stands, lower}
use Rattle.choice.proofs.Ranking.{stands_lower}
use Rattle.face.specs.Reading.{unfit}
use Rattle.face.proofs.Settling.{fit_exactly}
use Rattle.chooser.specs.declared.Slot.{Slot}
use Rattle.chooser.specs.Racks.{slot_of}
use Rattle.chooser.proofs.Slots.{slot_none, slot_face}

-- a length that is fit lies within the text
pub within : (text : List ℕ) {n : ℕ} → length text ≡ 64 → unfit n ≡ false → n ≤ length text
within text {n} e fit = let f = ((fit_exactly n).0 fit).1 in omega (arith, e, f)

module _ (w : Want) (family : List ℕ) (i : ℕ) (s : Slot) where
  pub stands_none : unfit s.length ≡ true → Stands w no_rank (of_family family i (slot_of s))
  unfolding of_family
  stands_none e = rw (slot_none s e) refl

  pub stands_other : unfit s.length ≡ false → same (take s.length s.family) family ≡ false → Stands w no_rank (of_family family i (slot_of s))
  unfolding of_family
  stands_other e d = rw (slot_face s e, d) refl

  pub stands_face : {x : ℕ} → unfit s.length ≡ false → same (take s.length s.family) family ≡ true → i < 32 → s.weight < 65536 → s.width < 65536 →
      x ≡ rank w i s.weight s.width (not (eqb s.sloped 0)) → Stands w x (of_family family i (slot_of s))
  unfolding of_family
  stands_face e d h a b r = rw (slot_face s e, d) (r, record { slot = h; weight = a; width = b })

-- one slot more
pub best_more : (m : Slots) (family : List ℕ) (w : Want) (i x y : ℕ) {z : ℕ} → Stands w x (best m family w i) → Stands w y (of_family family i (m i)) → z ≡ lower x y →
    Stands w z (best m family w (i + 1))
unfolding best
best_more m family w i x y p q e = rw (add-one i, e) (stands_lower w x y (best m family w i) (of_family family i (m i)) p q)

pub best_none : (m : Slots) (family : List ℕ) (w : Want) → Stands w no_rank (best m family w 0)
unfolding best
best_none m family w = refl

-- The answer and the room are what is settled, and no comparison that meets that answers or writes anything else.
-- Assumes nothing.
use Prim.Native.Nat.{ℕ, ◌*◌, ◌≤◌}
use mathlib.Core.Path.{◌≡◌}
use mathlib.Core.Option.{none}
use mathlib.Core.List.{List}
use native.Mathlib.Omega.{arith}
use lib.ListN.{length}
use Rattle.bigendian.specs.Numbers.{Bytes}
use Rattle.outcomes.specs.Outcomes.{Refusal}
use Rattle.name_layout.proofs.Keys.{key_asymmetric}
use Rattle.name.specs.Acceptance.{faults}
use Rattle.name.specs.Refusing.{Refused}
use Rattle.name.proofs.Refusings.{refused_exactly}
use Rattle.comparing.specs.Comparisons.{Comparison, listed}
use Rattle.comparing.proofs.Settling.{Compares, listed_within, settles, settled_is}
use Rattle.name_compare.specs.Differences.{differences, row_of}
use Rattle.name_compare.specs.Comparisons.{blame_of, compared_of, room_of}
use Rattle.name_compare.specs.Settled.{Differs, DifferenceBelow, ComparesNames}
use Rattle.name_compare.proofs.Rows.{five}
use Rattle.name_compare.proofs.Exactly.{lists_exactly}

module _ (left right : List ℕ) (bl : Bytes left) (br : Bytes right) where
  compares : Compares (λ (r : Refusal). ⊥) (Refused left) (Refused right) DifferenceBelow (Differs left right) row_of none (faults left) (faults right) (differences left right)
  compares =
      record {
        on_call = λ r. (λ e. let z : ◌≡◌ {A = ℕ} 0 1 = cc in omega arith, λ x. absurd x);
        on_left = λ c. refused_exactly left;
        on_right = λ c. refused_exactly right;
        lists = λ c al ar. lists_exactly left right bl br al ar;
        five = five;
        asymmetric = λ d e. key_asymmetric d.key e.key;
      }

pub compares_names : ComparesNames compared_of room_of
unfolding blame_of compared_of room_of
compares_names left right room bl br = settles _ _ _ _ _ row_of none (faults left) (faults right) (differences left right) (compares left right bl br) room

-- that leaves no other answer, and no other room
pub compares_only : (answer : List ℕ → List ℕ → ℕ → Comparison) (after : List ℕ → List ℕ → List ℕ → List ℕ) → ComparesNames answer after → (left right room : List ℕ) → Bytes left → Bytes right →
    (answer left right (length room) ≡ compared_of left right (length room)) × (after left right room ≡ room_of left right room)
unfolding blame_of compared_of room_of
compares_only answer after h left right room bl br =
    settled_is _ _ _ _ _ row_of none (faults left) (faults right) (differences left right) (compares left right bl br) room _ _ (h left right room bl br)

-- the rows that are answered are in the room
pub rows_within : (left right : List ℕ) (numbers n : ℕ) → compared_of left right numbers ≡ listed n → 5 * n ≤ numbers
unfolding blame_of compared_of
rows_within left right numbers n e = listed_within none (faults left) (faults right) (length (differences left right)) numbers n e

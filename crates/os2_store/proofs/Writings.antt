-- What an answer of the writer says: each test of its order, what the room holds then, and that the rules look at what is stored.
-- Assumes nothing.
use Prim.Native.Nat.{ℕ, ◌<◌, ◌≤◌, zero-le}
use mathlib.Core.Path.{◌≡◌, refl, sym, ap, ◌∙◌}
use mathlib.Core.Logic.{◌↔◌}
use mathlib.Core.Bool.{Bool, true, false, cond, not, true≢false}
use mathlib.Core.Option.{Option, none}
use mathlib.Core.List.{List}
use native.Mathlib.Nat.{le_trans}
use native.Mathlib.Omega.{arith}
use lib.Dec.{ltb}
use lib.ListN.{length, drop}
use lib.IntN.{ℤ, pos, negsuc}
use borrow.Author.Tests.{ltb-false, not-false}
use Rattle.outcomes.specs.Firsts.{first_among}
use Rattle.outcomes.specs.Outcomes.{bare, carrying, Outcome, refused, answered}
use Rattle.outcomes.proofs.Laws.{passed, then_none, none_exactly, unless_answered}
use Rattle.outcomes.proofs.Tests.{and_false}
use Rattle.level.specs.Levels.{newest}
use Rattle.level.specs.Sizes.{table_size}
use Rattle.os2_rules.specs.Tests.{verdict_of}
use Rattle.os2_fields.specs.Catalogue.{catalogue, field_count, field_of}
use Rattle.os2_fields.specs.Fields.{raw, version, values_of}
use Rattle.os2_store.specs.Writing.{number_for, fits, code_of, code_for, version_for, no_version, has_no_room, misfit, misfit_at, unwritten, write, image, where_written, room_after, TouchesOnly, InVersion}
use Rattle.os2_store.proofs.Images.{has_exactly, image_rest}

-- ---- the values that the rules look at

-- they are the same for two that have the same number for each field of the version
module _ (v : ℕ) (f g : ℕ → ℕ) (same : (k : ℕ) → InVersion v k → f k ≡ g k) (own : f 0 ≡ v) where
  early : (k : ℕ) → k < field_count → (field_of k).since ≤ 0 → f k ≡ g k
  early k h s = same k (h, le_trans s zero-le)

  late : (k : ℕ) → k < field_count → (field_of k).since ≤ 5 → cond (ltb v 5) 0 (f k) ≡ cond (ltb v 5) 0 (g k)
  late k h s = at (ltb v 5) refl
    where
      at : (t : Bool) → ltb v 5 ≡ t → cond t 0 (f k) ≡ cond t 0 (g k)
      at true e = refl
      at false e = same k (h, le_trans s (ltb-false v 5 e))

  own_same : g 0 ≡ v
  unfolding field_of catalogue
  own_same = sym (early 0 (omega arith) (omega arith)) ∙ own

  pub values_of_same : values_of f ≡ values_of g
  unfolding values_of field_of catalogue
  values_of_same =
      rw (
        own,
        own_same,
        early 2 (omega arith) (omega arith),
        early 3 (omega arith) (omega arith),
        early 4 (omega arith) (omega arith),
        early 31 (omega arith) (omega arith),
        late 46 (omega arith) (omega arith),
        late 47 (omega arith) (omega arith),
      )

-- the bytes of a version's fields make the numbers' codes
module _ (v : ℕ) (xs : List ℤ) (b : List ℕ) (same : (k : ℕ) → InVersion v k → raw b k ≡ code_for xs k) (own : version_for xs ≡ v) where
  pub version_same : version b ≡ v
  unfolding field_of catalogue
  version_same = same 0 (omega arith, omega arith) ∙ own

  pub values_same : values_of (raw b) ≡ values_of (code_for xs)
  values_same = values_of_same v (raw b) (code_for xs) same version_same

-- ---- what fits

-- nothing is refused by 8 exactly when each number of the version's fields fits
pub misfits_none : (v : ℕ) (xs : List ℤ) (n : ℕ) →
    (first_among (misfit_at v xs) n ≡ none) ↔ ((k : ℕ) → k < n → (field_of k).since ≤ v → fits (field_of k) (number_for xs k) ≡ true)
unfolding misfit
misfits_none v xs n = (
  λ e k h s. not-false _ ((and_false _ _).0 ((none_exactly (misfit v xs) (carrying 8) n).0 e k h) ((has_exactly v k).1 s)),
  λ f. (none_exactly (misfit v xs) (carrying 8) n).1 (λ k h. (and_false _ _).1 (λ e. ap not (f k h ((has_exactly v k).0 e)))),
)

-- ---- an answered size

pub record Success (xs : List ℤ) (r n : ℕ) : Type 0 where
  pub versioned : no_version (number_for xs 0) ≡ false
  pub long : table_size (version_for xs) ≤ r
  pub fitting : first_among (misfit_at (version_for xs) xs) field_count ≡ none
  pub ruled : verdict_of (values_of (code_for xs)) ≡ none
  pub size : n ≡ table_size (version_for xs)

pub success : (xs : List ℤ) (r n : ℕ) → write xs r ≡ answered n → Success xs r n
unfolding write unwritten has_no_room
success xs r n e =
    let u = (unless_answered (unwritten xs r) (answered (table_size (version_for xs))) n).0 e in
    let a = (passed (no_version (number_for xs 0)) (bare 4) _).0 u.0 in
    let b = (passed (has_no_room (version_for xs) r) (bare 5) _).0 a.1 in
    let c = (then_none _ _).0 b.1 in
    let s : answered (table_size (version_for xs)) ≡ answered n = u.1 in
    record { versioned = a.0; long = ltb-false _ _ b.0; fitting = search c; ruled = search c; size = cc }

-- the room holds the fields where the writer answers a size, and is what it was where it refuses
pub room_written : (xs : List ℤ) (r : List ℕ) (n : ℕ) → write xs (length r) ≡ answered n → room_after xs r ≡ image (version_for xs) xs r field_count
unfolding room_after
room_written xs r n e = ap (λ (o : Outcome ℕ). where_written o (image (version_for xs) xs r field_count) r) e

pub room_refused : (xs : List ℤ) (r : List ℕ) (n : ℕ) (c : Option ℕ) → write xs (length r) ≡ refused n c → room_after xs r ≡ r
unfolding room_after
room_refused xs r n c e = ap (λ (o : Outcome ℕ). where_written o (image (version_for xs) xs r field_count) r) e

-- the version is the number for field 0
pub code_version : (xs : List ℤ) (v : ℕ) → number_for xs 0 ≡ pos v → version_for xs ≡ v
unfolding code_of
code_version xs v e = rw e

pub version_most : (xs : List ℤ) (v : ℕ) → number_for xs 0 ≡ pos v → no_version (number_for xs 0) ≡ false → v ≤ newest
unfolding no_version
version_most xs v e h = ltb-false newest v (rw e at h)

pub known_most : (xs : List ℤ) → no_version (number_for xs 0) ≡ false → version_for xs ≤ newest
unfolding no_version code_of
known_most xs = at (number_for xs 0)
  where
    at : (z : ℤ) → no_version z ≡ false → code_of (field_of 0) z ≤ newest
    at (pos v) e = ltb-false newest v e
    at (negsuc v) e = absurd (true≢false e)

pub touches_only : TouchesOnly write room_after
touches_only xs r = (room_refused xs r, wrote)
  where
    wrote : (n : ℕ) → write xs (length r) ≡ answered n → (v : ℕ) → number_for xs 0 ≡ pos v →
        (n ≡ table_size v) × (drop (table_size v) (room_after xs r) ≡ drop (table_size v) r)
    wrote n e v x =
        let c : version_for xs ≡ v = code_version xs v x in
        (rw c at (success xs (length r) n e).size, rw (room_written xs r n e, c) (image_rest v xs r))

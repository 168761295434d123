-- What is written holds each number's bytes at its field (Images), and a field's bytes and its whole number give each other (Codes); so the numbers
-- that were written stand in the table, and the numbers in a table are written as its own bytes. The rules look at the same values on both ways.
-- Assumes nothing.
use Prim.Native.Nat.{ℕ, ◌≤◌}
use mathlib.Core.Path.{◌≡◌, refl, sym, ◌∙◌}
use mathlib.Core.Bool.{true}
use mathlib.Core.Option.{none}
use mathlib.Core.List.{List, ◌++◌}
use native.Mathlib.Omega.{arith}
use lib.ListN.{length, take, length-append}
use lib.Seq.{length-take-le}
use lib.IntN.{ℤ, pos}
use borrow.Author.Tests.{le-ltb}
use Rattle.outcomes.specs.Firsts.{when, ◌then◌, first_among}
use Rattle.outcomes.specs.Outcomes.{answered, unless}
use Rattle.level.specs.Levels.{newest}
use Rattle.level.specs.Sizes.{table_size}
use Rattle.bigendian.specs.Numbers.{Bytes}
use Rattle.os2_rules.specs.Rules.{Rules}
use Rattle.os2_rules.specs.Tests.{verdict_of}
use Rattle.os2_rules.proofs.Exactly.{kept_exactly}
use Rattle.os2_fields.specs.Catalogue.{catalogue, field_count, field_of}
use Rattle.os2_fields.specs.Fields.{value_in, raw, version, values_of}
use Rattle.os2_fields.proofs.Laws.{value_plain}
use Rattle.os2_fields.proofs.Tiling.{sign_width}
use Rattle.os2_store.specs.Writing.{number_for, fits, code_for, version_for, no_version, has_no_room, misfit_at, unwritten, write, image, room_after, InVersion, Holds}
use Rattle.os2_store.proofs.Codes.{code_small, value_coded, code_read, fits_read}
use Rattle.os2_store.proofs.Images.{image_length, front_raw, image_holds}
use Rattle.os2_store.proofs.Writings.{version_same, values_same, misfits_none, Success, success, room_written, code_version, version_most}

-- ---- written numbers stand in the table

-- b is a table of version v, one of 0 to 5, that keeps the rules and holds the numbers xs in the fields that v has
pub record Written (v : ℕ) (xs : List ℤ) (b : List ℕ) : Type 0 where
  pub most : v ≤ newest
  pub own : version b ≡ v
  pub sized : table_size v ≤ length b
  pub ruled : Rules (values_of (raw b))
  pub values : (k : ℕ) → InVersion v k → value_in b (field_of k) ≡ number_for xs k

pub written : (xs : List ℤ) (r : List ℕ) (v n : ℕ) → number_for xs 0 ≡ pos v → write xs (length r) ≡ answered n → (rest : List ℕ) →
    Written v xs (take n (room_after xs r) ++ rest)
written xs r v n x e rest =
    rw (rw c at s.size, room_written xs r n e, c) (
    record {
      most = version_most xs v x s.versioned;
      own = version_same v xs b back c;
      sized = omega (arith, length-append front rest, length-take-le (table_size v) (image v xs r field_count) (rw (image_length v xs r field_count) long));
      ruled = (kept_exactly (values_of (raw b))).0 (rw (values_same v xs b back c) s.ruled);
      values = λ k h. value_coded b (field_of k) (sign_width k h.0) (number_for xs k) (fit k h) (back k h);
    }
    )
  where
    s : Success xs (length r) n
    s = success xs (length r) n e

    c : version_for xs ≡ v
    c = code_version xs v x

    long : table_size v ≤ length r
    long = rw c at s.long

    front : List ℕ
    front = take (table_size v) (image v xs r field_count)

    b : List ℕ
    b = front ++ rest

    fit : (k : ℕ) → InVersion v k → fits (field_of k) (number_for xs k) ≡ true
    fit k h = (misfits_none v xs field_count).0 (rw c at s.fitting) k h.0 h.1

    back : (k : ℕ) → InVersion v k → raw b k ≡ code_for xs k
    back k h = front_raw v xs r long rest k h (code_small (field_of k) (number_for xs k) (fit k h))

-- ---- the numbers in a table are written as its own bytes

module _ (b : List ℕ) (bytes : Bytes b) (most : version b ≤ newest) (sized : table_size (version b) ≤ length b) (ruled : Rules (values_of (raw b))) where
  module _ (xs : List ℤ) (holds : (k : ℕ) → InVersion (version b) k → number_for xs k ≡ value_in b (field_of k)) where
    code_is : (k : ℕ) → InVersion (version b) k → code_for xs k ≡ raw b k
    code_is k h = rw (holds k h) (code_read b (field_of k) (sign_width k h.0) bytes)

    first_number : number_for xs 0 ≡ pos (version b)
    unfolding field_of catalogue
    first_number = holds 0 (omega arith, omega arith) ∙ value_plain b (field_of 0) refl

    first_code : version_for xs ≡ version b
    first_code = code_version xs (version b) first_number

    fits_all : first_among (misfit_at (version b) xs) field_count ≡ none
    fits_all =
        (misfits_none (version b) xs field_count).1 (λ k h s. rw (holds k (h, s)) (fits_read b (field_of k) (sign_width k h) bytes))

    kept : verdict_of (values_of (code_for xs)) ≡ none
    kept = rw (← values_same (version b) xs b (λ k h. sym (code_is k h)) first_code) ((kept_exactly (values_of (raw b))).1 ruled)

    answers : (r : ℕ) → table_size (version b) ≤ r → write xs r ≡ answered (table_size (version b))
    unfolding write unwritten unless when ◌then◌ no_version has_no_room
    answers r h = rw (kept, first_code, first_number, le-ltb newest (version b) most, le-ltb r (table_size (version b)) h, fits_all)

    pub same_bytes : (r : List ℕ) → table_size (version b) ≤ length r →
        (write xs (length r) ≡ answered (table_size (version b))) × Holds (version b) b r (room_after xs r)
    same_bytes r h =
        let e = answers (length r) h in
        (e, rw (room_written xs r (table_size (version b)) e, first_code) (image_holds (version b) xs r h b bytes code_is most sized))

-- The two tables of `Examples`: the pass over them, step by step, is the list, since the list itself goes through too many keys to be computed.
-- Assumes nothing.
use Prim.Native.Nat.{ℕ, zero, suc, ◌<◌}
use mathlib.Core.Path.{◌≡◌, refl, sym}
use mathlib.Core.Bool.{Bool, true, ◌&&◌}
use mathlib.Core.List.{List, [], ◌∷◌}
use native.Mathlib.Omega.{arith}
use lib.Dec.{ltb}
use Rattle.bigendian.specs.Numbers.{number, Bytes}
use Rattle.outcomes.specs.Firsts.{when, ◌then◌, first_among}
use Rattle.outcomes.proofs.Tests.{and_true, below}
use Rattle.name_layout.specs.Layout.{tag_count, tags_at, bytes_of}
use Rattle.name_layout.specs.Keys.{key_of, same as same_key, below as lower}
use Rattle.name_tests.specs.Tests.{is_too_short, in_other_format, records_pass_end, tags_pass_end, misplaced}
use Rattle.name_tests.specs.Tests.{string_passes, starts_beyond, runs_over, forbidden, is_language_refused, below_before, equals_before}
use Rattle.name.specs.Acceptance.{layout_fault, record_fault, tag_fault, faults}
use Rattle.comparing.specs.Rooms.{rows_of, is_too_many, front}
use Rattle.comparing.specs.Comparisons.{of, blame, answer_of, room_after}
use Rattle.same_bytes.specs.Same.{same}
use Rattle.std.specs.Prelude.{Some, None}
use Rattle.name_compare.specs.declared.Which.TheVariants.{OtherBytes}
use Rattle.name_compare.specs.Differences.{key_numbered, row_of}
use Rattle.name_compare.specs.Comparisons.{blame_of, compared_of, room_of}
use Rattle.name_compare.specs.Steps.{key_at, Both, passed}
use Rattle.name_compare.specs.Examples.{left, right, Listed, AnswersHold, RoomsHold}
use Rattle.name_compare.proofs.KeyNumbers.{key_below}
use Rattle.name_compare.proofs.Merges.{passes_same, passes_other, started, left_only_lem, right_only_lem, in_both_lem, finished}

-- a list of which each number is below 256 is bytes
abbrev small : List ℕ → Bool
small [] = true
small (x ∷ xs) = ltb x 256 && small xs

small_bytes : (l : List ℕ) → small l ≡ true → Bytes l
small_bytes [] e i = omega arith
small_bytes (x ∷ xs) e zero = (below x 256).0 ((and_true (ltb x 256) (small xs)).0 e).0
small_bytes (x ∷ xs) e (suc i) = small_bytes xs ((and_true (ltb x 256) (small xs)).0 e).1 i

left_bytes_lem : Bytes left
left_bytes_lem = small_bytes left refl

right_bytes_lem : Bytes right
right_bytes_lem = small_bytes right refl

both : Both left right
unfolding number when ◌then◌ first_among tag_count tags_at key_of same_key lower is_too_short in_other_format records_pass_end tags_pass_end misplaced starts_beyond runs_over
    string_passes forbidden is_language_refused below_before equals_before layout_fault record_fault tag_fault faults
both = record { left_bytes = left_bytes_lem; right_bytes = right_bytes_lem; left_accepted = refl; right_accepted = refl }

-- the first key on the left is below the first on the right
first_left : key_at left 0 < key_at right 0
unfolding number key_of
first_left = omega arith

pub listed : Listed
unfolding number key_of bytes_of same passed key_numbered
listed =
    let a = left_only_lem left right both (started left right) (key_below left left_bytes_lem 0) (omega arith) (λ h. first_left) in
    let b = in_both_lem left right both a (key_below left left_bytes_lem 1) (omega arith) (omega arith) refl (Some OtherBytes)
    (passes_other (key_at left 1) (same (bytes_of left 1) (bytes_of right 0)) refl) in
    let c = in_both_lem left right both b (key_below left left_bytes_lem 2) (omega arith) (omega arith) refl None (passes_same (key_at left 2) (same (bytes_of left 2) (bytes_of right 1)) refl) in
    let d = right_only_lem left right both c (key_below right right_bytes_lem 2) (omega arith) (λ h. absurd (omega arith)) in
    sym (finished left right both d (omega arith) (omega arith))

pub answers_hold : AnswersHold
unfolding number when ◌then◌ first_among tag_count tags_at key_of same_key lower is_too_short in_other_format records_pass_end tags_pass_end misplaced starts_beyond runs_over
    string_passes forbidden is_language_refused below_before equals_before layout_fault record_fault tag_fault faults is_too_many of blame answer_of blame_of compared_of
answers_hold = rw listed

pub rooms_hold : RoomsHold
unfolding number when ◌then◌ first_among tag_count tags_at key_of same_key lower is_too_short in_other_format records_pass_end tags_pass_end misplaced starts_beyond runs_over
    string_passes forbidden is_language_refused below_before equals_before layout_fault record_fault tag_fault faults rows_of is_too_many front of blame room_after row_of blame_of room_of
rooms_hold = rw listed

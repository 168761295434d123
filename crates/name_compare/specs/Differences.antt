-- Document 02, Ask 2: "For 'name': keys only on the left, only on the right, and in both with other string bytes, all in one key order, each key once and with
-- which of the three it is."
use Rattle.std.specs.Prelude.{ℕ, ◌/◌, ◌%◌, Bool, not, List, [], ◌∷◌}
use Rattle.std.proofs.Math.Option.{Option, none, some}
use Rattle.outcomes.specs.Firsts.{when}
use Rattle.name_layout.specs.Layout.{bytes_of}
use Rattle.name_layout.specs.Keys.{Key, key_from}
use Rattle.name_search.specs.Searches.{record_with}
use Rattle.comparing.specs.Lists.{list_below}
use Rattle.same_bytes.specs.Same.{same}

-- a key on which two tables differ, and which of the three it is
pub record Difference : Type 0 where
  pub key : Key
  pub which : ℕ

abbrev pub left_only : ℕ
left_only = 1

abbrev pub right_only : ℕ
right_only = 2

abbrev pub both_other : ℕ
both_other = 3

-- a key in both is listed where its strings are not the same
unfoldable pub in_both : Bool → Option ℕ
in_both equal = when (not equal) both_other

-- which of the three a key is, if it is one, from the records that have it
unfoldable pub which_of : List ℕ → List ℕ → Option ℕ → Option ℕ → Option ℕ
which_of left right none none = none
which_of left right (some i) none = some left_only
which_of left right none (some j) = some right_only
which_of left right (some i) (some j) = in_both (same (bytes_of left i) (bytes_of right j))

unfoldable pub entry_for : Key → Option ℕ → Option Difference
entry_for k none = none
entry_for k (some w) = some (record { key = k; which = w })

-- the keys in their order: the key whose four numbers are the digits of k to the base 65,536, for k from 0 to 65,536 ^ 4 - 1
unfoldable pub key_numbered : ℕ → Key
key_numbered k = key_from (k / 281474976710656) (k / 4294967296 % 65536) (k / 65536 % 65536) (k % 65536)

unfoldable pub key_count : ℕ
key_count = 18446744073709551616

unfoldable pub difference_at : List ℕ → List ℕ → ℕ → Option Difference
difference_at left right k = entry_for (key_numbered k) (which_of left right (record_with left (key_numbered k)) (record_with right (key_numbered k)))

-- "all in one key order, each key once"
unfoldable pub differences : List ℕ → List ℕ → List Difference
differences left right = list_below (difference_at left right) key_count

-- a row: the key's four numbers, and which of the three it is
unfoldable pub row_of : Difference → List ℕ
row_of d = d.key.platform ∷ d.key.encoding ∷ d.key.language ∷ d.key.name ∷ d.which ∷ []

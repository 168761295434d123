-- A key of four numbers of 16 bits and its one number stand for each other.
-- Assumes nothing.
use Prim.Native.Nat.{ℕ, ◌<◌}
use mathlib.Core.Path.{◌≡◌, ◌∙◌}
use mathlib.Core.List.{List}
use native.Mathlib.Omega.{arith}
use Rattle.bigendian.specs.Numbers.{Bytes}
use Rattle.outcomes.proofs.Tests.{equal}
use Rattle.name_layout.specs.Keys.{Key, key_of, packed}
use Rattle.name_layout.proofs.Keys.{Small, key_small, same_is, same_packed}
use Rattle.name_search.proofs.Finds.{record_numbered, find_numbered}
use Rattle.name_compare.specs.Differences.{key_numbered, key_count, which_of, entry_for, difference_at}

pub numbered_packed : (k : ℕ) → packed (key_numbered k) ≡ k
unfolding key_numbered
numbered_packed k = omega arith

pub numbered_small : (k : ℕ) → k < key_count → Small (key_numbered k)
unfolding key_numbered key_count
numbered_small k h = record { platform = omega arith; encoding = omega arith; language = omega arith; name = omega arith }

module _ (k : Key) (s : Small k) where
  pub packed_below : packed k < key_count
  unfolding key_count
  packed_below = omega arith

  pub packed_numbered : key_numbered (packed k) ≡ k
  packed_numbered =
      let t = same_packed (numbered_small (packed k) packed_below) s in
      (same_is (key_numbered (packed k)) k).0 (t ∙ (equal _ _).1 (numbered_packed (packed k)))

-- what a key is, by the code's numbers
pub by_number : (left right : List ℕ) → Bytes left → Bytes right → (k : ℕ) → k < key_count →
    difference_at left right k ≡ entry_for (key_numbered k) (which_of left right (record_numbered left k) (record_numbered right k))
unfolding difference_at
by_number left right bl br k h =
    let s = numbered_small k h in
    let e = find_numbered left (key_numbered k) bl s in
    let f = find_numbered right (key_numbered k) br s in
    rw (← e, ← f, numbered_packed k)

-- a record's key is one of the numbers
pub key_below : (t : List ℕ) → Bytes t → (i : ℕ) → packed (key_of t i) < key_count
key_below t b i = packed_below (key_of t i) (key_small t b i)

-- What a pass over both tables keeps: the keys that it has passed are those below a bound, and what it has listed is what differs of these.
use Rattle.std.specs.Prelude.{ℕ, ◌+◌, ◌≤◌, ◌<◌, ◌≡◌, List, [], ◌∷◌, ◌++◌, Option as Maybe, Some, None}
use Rattle.std.proofs.Math.Option.{none}
use Rattle.bigendian.specs.Numbers.{Bytes}
use Rattle.name_layout.specs.Layout.{count}
use Rattle.name_layout.specs.Keys.{key_of, packed}
use Rattle.name.specs.Acceptance.{faults}
use Rattle.comparing.specs.Lists.{list_below}
use Rattle.name_compare.specs.declared.Pair.{Pair}
use Rattle.name_compare.specs.declared.Step.{Step}
use Rattle.name_compare.specs.declared.Which.{Which}
use Rattle.name_compare.specs.declared.Which.TheVariants.{OnlyLeft, OnlyRight, OtherBytes}
use Rattle.name_compare.specs.Differences.{Difference, left_only, right_only, both_other, key_numbered, key_count, difference_at}

-- the key of record i as one number
abbrev pub key_at : List ℕ → ℕ → ℕ
key_at t i = packed (key_of t i)

-- of n keys the first i are those below b
pub record Cut (key : ℕ → ℕ) (n i b : ℕ) : Type 0 where
  pub below : (x : ℕ) → x < i → key x < b
  pub from : (x : ℕ) → i ≤ x → x < n → b ≤ key x

-- what is listed is what differs of the keys below a bound, which cuts both tables
pub record Reached (left right : List ℕ) (i j : ℕ) (out : List Difference) : Type 0 where
  pub bound : ℕ
  pub most : bound ≤ key_count
  pub on_left : Cut (key_at left) (count left) i bound
  pub on_right : Cut (key_at right) (count right) j bound
  pub is : out ≡ list_below (difference_at left right) bound

-- two accepted tables
pub record Both (left right : List ℕ) : Type 0 where
  pub left_bytes : Bytes left
  pub right_bytes : Bytes right
  pub left_accepted : faults left ≡ none
  pub right_accepted : faults right ≡ none

pub both_of : (x : Pair) → Both x.left.bytes.now x.right.bytes.now
both_of x = record { left_bytes = x.left.each; right_bytes = x.right.each; left_accepted = x.left.accepted; right_accepted = x.right.accepted }

-- a place of the pass that is not its end
pub record Within (left right : List ℕ) (i j : ℕ) : Type 0 where
  pub on_left : i ≤ count left
  pub on_right : j ≤ count right
  pub more : i + j < count left + count right

-- the number of what a key is
abbrev pub which_number : Which → ℕ
which_number OnlyLeft = left_only
which_number OnlyRight = right_only
which_number OtherBytes = both_other

-- what a step lists: the key that it passes, if it is one of the three
unfoldable pub passed : ℕ → Maybe Which → List Difference
passed key None = []
passed key (Some w) = record { key = key_numbered key; which = which_number w } ∷ []

-- a step goes on, and lists its key if it is one of the three
pub record Stepped (left right : List ℕ) (i j : ℕ) (s : Step) : Type 0 where
  pub on_left : s.left ≤ count left
  pub on_right : s.right ≤ count right
  pub onward : i + j < s.left + s.right
  pub lists : (out : List Difference) → Reached left right i j out → Reached left right s.left s.right (out ++ passed s.key s.which)

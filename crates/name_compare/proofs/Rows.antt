-- A difference's row, and how many rows a step lists.
-- Assumes nothing.
use Prim.Native.Nat.{ℕ, ◌+◌, ◌≤◌}
use mathlib.Core.Path.{◌≡◌, refl}
use mathlib.Core.List.{List, [], ◌++◌, append-nil}
use native.Mathlib.Omega.{arith}
use lib.ListN.{length, length-append}
use Rattle.std.specs.Prelude.{Option, Some, None}
use Rattle.comparing.specs.Rooms.{rows_of}
use Rattle.name_compare.specs.declared.Which.{Which}
use Rattle.name_compare.specs.Differences.{Difference, key_numbered, row_of}
use Rattle.name_compare.specs.Steps.{which_number, passed}

pub five : (d : Difference) → length (row_of d) ≡ 5
unfolding row_of
five d = refl

module _ (k : ℕ) where
  pub passed_none : length (passed k None) ≡ 0
  unfolding passed
  passed_none = refl

  pub passed_nothing : passed k None ≡ []
  unfolding passed
  passed_nothing = refl

  module _ (w : Which) where
    pub passed_one : length (passed k (Some w)) ≡ 1
    unfolding passed
    passed_one = refl

    pub row_one : rows_of row_of (passed k (Some w)) ≡ row_of (record { key = key_numbered k; which = which_number w })
    unfolding rows_of passed
    row_one = append-nil _

  module _ (out : List Difference) {w : Option Which} where
    pub no_more : w ≡ None → length (out ++ passed k w) ≡ length out
    no_more e = rw (e, length-append, passed_none) (omega arith)

    pub one_more : {x : Which} → w ≡ Some x → length (out ++ passed k w) ≡ length out + 1
    one_more {x} e = rw (e, length-append, passed_one x)

  pub one_at_most : (w : Option Which) → length (passed k w) ≤ 1
  unfolding passed
  one_at_most None = omega arith
  one_at_most (Some w) = omega arith

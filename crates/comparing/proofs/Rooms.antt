-- The rows of a list, and what a row's stores do to a room whose front is written.
-- Assumes nothing.
use Prim.Native.Nat.{ℕ, ◌+◌, ◌*◌, ◌/◌, ◌≤◌, ◌<◌}
use mathlib.Core.Path.{◌≡◌, refl, ◌∙◌}
use mathlib.Core.Logic.{◌↔◌}
use mathlib.Core.Bool.{true, false}
use mathlib.Core.List.{List, [], ◌∷◌, ◌++◌, append_assoc}
use native.Mathlib.Omega.{arith}
use lib.ListN.{length, drop, length-append, length-drop}
use lib.Seq.{sets, sets-eq, take_at, drop-append-add, drop-drop}
use Rattle.outcomes.proofs.Tests.{below, not_below}
use Rattle.comparing.specs.Rooms.{rows_of, is_too_many, front}

-- 29's test: as many rows as differences are enough
pub too_many_exactly : (differences numbers : ℕ) → (is_too_many differences numbers ≡ true) ↔ (numbers / 5 < differences)
unfolding is_too_many
too_many_exactly differences numbers = below (numbers / 5) differences

pub enough_exactly : (differences numbers : ℕ) → (is_too_many differences numbers ≡ false) ↔ (differences ≤ numbers / 5)
unfolding is_too_many
enough_exactly differences numbers = not_below (numbers / 5) differences

module _ {N : Type 0} where
  pub front_none : (room : List N) → room ≡ front [] room
  unfolding front
  front_none room = refl

  -- a front that grows: the numbers after it, stored after it
  pub front_more : (xs ys room : List N) → length xs + length ys ≤ length room → sets (front xs room) (length xs) ys ≡ front (xs ++ ys) room
  unfolding front
  front_more xs ys room h =
      let l : length xs + length ys ≤ length (xs ++ drop (length xs) room) = simp (length-append, length-drop) (omega arith) in
      sets-eq ys (xs ++ drop (length xs) room) (length xs) l
      ∙ rw (take_at xs (drop (length xs) room) (length xs) refl, drop-append-add, drop-drop, length-append)

  pub front_length : (xs room : List N) → length xs ≤ length room → length (front xs room) ≡ length room
  unfolding front
  front_length xs room h = simp (length-append, length-drop) (omega arith)

module _ {A N : Type 0} (row : A → List N) (five : (d : A) → length (row d) ≡ 5) where
  pub rows_append : (a b : List A) → rows_of row (a ++ b) ≡ rows_of row a ++ rows_of row b
  unfolding rows_of
  rows_append [] b = refl
  rows_append (d ∷ a) b = rw (rows_append a b, append_assoc)

  pub rows_length : (a : List A) → length (rows_of row a) ≡ 5 * length a
  unfolding rows_of
  rows_length [] = refl
  rows_length (d ∷ a) = length-append (row d) (rows_of row a) ∙ omega (arith, five d, rows_length a)

  -- the room after all rows are written
  pub front_rows : (a : List A) (room : List N) → front (rows_of row a) room ≡ rows_of row a ++ drop (5 * length a) room
  unfolding front
  front_rows a room = rw (rows_length a)

  -- one step of the writing: the rows of what is listed stand at the front, and so do those of what is then listed
  module _ (a b : List A) (room : List N) (enough : length (a ++ b) ≤ length room / 5) where
    pub grown : {old new : List N} {at : ℕ} → at ≡ 5 * length a → old ≡ front (rows_of row a) room → new ≡ sets old at (rows_of row b)
        → (length new ≡ length room) × (new ≡ front (rows_of row (a ++ b)) room)
    grown {old} {new} {at} e f g =
        let fits : length (rows_of row a) + length (rows_of row b) ≤ length room = omega (arith, rows_length a, rows_length b, length-append a b) in
        let z : at ≡ length (rows_of row a) = omega (arith, rows_length a) in
        let w : new ≡ front (rows_of row a ++ rows_of row b) room = g ∙ rw (z, f) (front_more (rows_of row a) (rows_of row b) room fits) in
        let l : length (rows_of row a ++ rows_of row b) ≤ length room = rw length-append fits in
        (rw w (front_length (rows_of row a ++ rows_of row b) room l), rw (rows_append a b) w)

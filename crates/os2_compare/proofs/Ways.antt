-- The outcome and the room at each return of the comparison: the way there settles the order's first refusal.
-- Assumes nothing.
use Prim.Native.Nat.{ℕ, ◌/◌, ◌≤◌, ◌<◌}
use mathlib.Core.Path.{◌≡◌, refl}
use mathlib.Core.Option.{none, some}
use mathlib.Core.List.{List}
use lib.IntN.{ℤ}
use lib.ListN.{length}
use Rattle.outcomes.specs.Outcomes.{Refusal, bare}
use Rattle.outcomes.proofs.Laws.{when_none, when_some}
use Rattle.outcomes.proofs.Tests.{below, not_below}
use Rattle.level.specs.Levels.{newest, number_of, level_of}
use Rattle.level.specs.declared.Level.{Level}
use Rattle.level.specs.declared.LevelAbove.{LevelAbove}
use Rattle.std.specs.Prelude.{Ok, Err}
use Rattle.level.proofs.Laws as levels
use Rattle.os2_acceptance.specs.Acceptance.{judged}
use Rattle.comparing.specs.Comparisons.{Neither, Left, Right}
use Rattle.comparing.specs.Rooms.{rows_of, front}
use Rattle.comparing.specs.Comparisons.{Blamed, on, listed, refused, answer_of, room_after}
use Rattle.comparing.proofs.Rooms.{too_many_exactly, enough_exactly}
use Rattle.comparing.proofs.Settling.{way_call, way_left, way_right, way_many, way_listed, is_refused}
use Rattle.os2_compare.specs.Differences.{differences, row_of}
use Rattle.os2_compare.specs.Comparisons.{level_refusal, blame_of, compared_of, room_of}

module _ (L : ℕ) (left right : List ℕ) (room : List ℤ) where
  -- a refusal is answered, and nothing is written
  abbrev Refuses : Blamed → Type 0
  Refuses b = (refused b.side b.refusal ≡ compared_of L left right (length room)) × (room ≡ room_of L left right room)

  refuses : {b : Blamed} → blame_of L left right (length room) ≡ some b → Refuses b
  unfolding compared_of room_of
  refuses e = is_refused _ _ _ e

  pub level_refused : {r : LevelAbove} → level_of L ≡ Err r → Refuses (on Neither (bare 1))
  unfolding blame_of level_refusal
  level_refused {r} e = refuses (way_call _ _ _ _ _ ((when_some _ _ _).1 ((below newest L).1 (levels.refused L r e), refl)))

  module _ {l : Level} (e : level_of L ≡ Ok l) where
    low : level_refusal L ≡ none
    unfolding level_refusal
    low = (when_none _ _).1 ((not_below newest L).1 (levels.known L l e).0)

    pub left_refused : {r : Refusal} → judged (number_of l) left ≡ some r → Refuses (on Left r)
    unfolding blame_of
    left_refused p = refuses (way_left _ _ _ _ _ low (rw (levels.known L l e).1 at p))

    module _ (p : judged (number_of l) left ≡ none) where
      pub right_refused : {r : Refusal} → judged (number_of l) right ≡ some r → Refuses (on Right r)
      unfolding blame_of
      right_refused q = let z = (levels.known L l e).1 in refuses (way_right _ _ _ _ _ low (rw z at p) (rw z at q))

      module _ (q : judged (number_of l) right ≡ none) {n : ℕ} (d : n ≡ length (differences (number_of l) left right)) where
        pub too_many : length room / 5 < n → Refuses (on Neither (bare 29))
        unfolding blame_of
        too_many h =
            let z = (levels.known L l e).1 in
            refuses (way_many _ _ _ _ _ low (rw z at p) (rw z at q) ((too_many_exactly _ _).1 (rw (d, z) at h)))

        pub all_listed : {new : List ℤ} → n ≤ length room / 5 → new ≡ front (rows_of row_of (differences (number_of l) left right)) room →
            (listed n ≡ compared_of L left right (length room)) × (new ≡ room_of L left right room)
        unfolding compared_of room_of answer_of room_after blame_of
        all_listed h w =
            let z = (levels.known L l e).1 in
            rw (way_listed _ _ _ _ _ low (rw z at p) (rw z at q) ((enough_exactly _ _).1 (rw (d, z) at h)), w, d, z) (refl, refl)

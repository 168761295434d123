-- What is read at level 5 and written again is the table's own bytes: demand 2's rewriting, met by the definition of what `rewrite` gives.
-- Assumes nothing.
use Prim.Native.Nat.{ℕ, ◌<◌, ◌≤◌}
use mathlib.Core.Path.{◌≡◌, refl, sym, ap₂, ◌∙◌}
use mathlib.Core.Option.{none, some}
use mathlib.Core.List.{List, ◌++◌}
use native.Mathlib.Nat.{min-eq_left}
use native.Mathlib.Decide.{dec_lt}
use native.Mathlib.Omega.{arith}
use lib.ListN.{length, take, drop, take-append-drop}
use lib.Seq.{length-take-le, take_at, drop_at}
use lib.IntN.{ℤ, pos}
use borrow.Author.Tests.{lt-ltb, le-ltb}
use Rattle.outcomes.specs.Firsts.{when, ◌then◌}
use Rattle.outcomes.specs.Outcomes.{Refusal, refused, answered, unless}
use Rattle.level.specs.Levels.{newest}
use Rattle.level.specs.Sizes.{table_size}
use Rattle.bigendian.specs.Numbers.{Bytes}
use Rattle.os2_fields.specs.Catalogue.{catalogue, field_of}
use Rattle.os2_fields.specs.Fields.{version}
use Rattle.os2_fields.proofs.Laws.{value_plain}
use Rattle.os2_acceptance.specs.Acceptance.{judged}
use Rattle.os2_acceptance.specs.Settled.{Accepted}
use Rattle.os2_acceptance.proofs.Accepting.{judged_exactly}
use Rattle.os2_store.specs.Writing.{number_for, no_version, has_no_room, write, room_after, Holds}
use Rattle.os2_store.proofs.Writings.{room_refused}
use Rattle.os2_store.proofs.RoundTrips.{same_bytes}
use Rattle.os2_writer.specs.Rewriting.{unrewritten, rewritten, room_rewritten, Reading}
use Rattle.os2_store.proofs.Outcomes.{wrote_4, wrote_5}

module _ (b room : List ℕ) where
  -- a table that the reader refuses
  pub unread : (r : Refusal) → some r ≡ judged newest b → (refused r.number r.carried ≡ rewritten b (length room)) × (room ≡ room_rewritten b room)
  unfolding rewritten room_rewritten unrewritten unless ◌then◌
  unread r e = rw (← e) (refl, refl)

  -- a table that it accepts
  module _ (told : judged newest b ≡ none) where
    refused_4 : newest < version b → (rewritten b (length room) ≡ refused 4 none) × (room_rewritten b room ≡ room)
    unfolding rewritten room_rewritten unrewritten unless when ◌then◌
    refused_4 h = rw (told, lt-ltb newest (version b) h) (refl, refl)

    refused_5 : version b ≤ newest → length room < table_size (version b) → (rewritten b (length room) ≡ refused 5 none) × (room_rewritten b room ≡ room)
    unfolding rewritten room_rewritten unrewritten unless when ◌then◌ has_no_room
    refused_5 h l = rw (told, le-ltb newest (version b) h, lt-ltb (length room) (table_size (version b)) l) (refl, refl)

    done : version b ≤ newest → table_size (version b) ≤ length room →
        (rewritten b (length room) ≡ answered (table_size (version b))) × (room_rewritten b room ≡ take (table_size (version b)) b ++ drop (table_size (version b)) room)
    unfolding rewritten room_rewritten unrewritten unless when ◌then◌ has_no_room
    done h l = rw (told, le-ltb newest (version b) h, le-ltb (length room) (table_size (version b)) l) (refl, refl)

    -- the numbers in its version's fields are written as its own bytes, or refused by 4 or 5
    module _ (bytes : Bytes b) (xs : List ℤ) (reading : Reading b xs) where
      a : Accepted newest b
      a = (judged_exactly newest b).0 told

      first : number_for xs 0 ≡ pos (version b)
      unfolding field_of catalogue
      first = reading 0 (omega arith, omega arith) ∙ value_plain b (field_of 0) refl

      above : newest < version b → write xs (length room) ≡ refused 4 none
      unfolding no_version
      above h = sym (wrote_4 xs (length room) (rw first (lt-ltb newest (version b) h)))

      pub rewrote : (write xs (length room) ≡ rewritten b (length room)) × (room_after xs room ≡ room_rewritten b room)
      rewrote = version_is (dec_lt newest (version b)) (dec_lt (length room) (table_size (version b)))
        where
          both : (n : ℕ) → write xs (length room) ≡ refused n none → (rewritten b (length room) ≡ refused n none) × (room_rewritten b room ≡ room) →
              (write xs (length room) ≡ rewritten b (length room)) × (room_after xs room ≡ room_rewritten b room)
          both n e d = (e ∙ sym d.0, room_refused xs room n none e ∙ sym d.1)

          version_is : Dec (newest < version b) → Dec (length room < table_size (version b)) →
              (write xs (length room) ≡ rewritten b (length room)) × (room_after xs room ≡ room_rewritten b room)
          version_is (yes h) d = both 4 (above h) (refused_4 h)
          version_is (no h) (yes l) = both 5 (sym (wrote_5 xs (length room) (version b) first (omega arith) l)) (refused_5 (omega arith) l)
          version_is (no h) (no l) =
              let m : version b ≤ newest = omega arith in
              let s = same_bytes b bytes m (rw (min-eq_left m) at a.sized) (a.ruled m) xs reading room (omega arith) in
              let d = done m (omega arith) in (
                s.0 ∙ sym d.0,
                sym (take-append-drop (table_size (version b)) (room_after xs room)) ∙ (ap₂ ◌++◌ s.1.0 s.1.1 ∙ sym d.1),
              )

-- in plain words: a table of version 0 to 5 that level 5 accepts is rewritten into any room that is long enough, which then starts with the table's own
-- bytes up to its version's size and is otherwise untouched
pub same_table : (b room : List ℕ) → Accepted newest b → version b ≤ newest → table_size (version b) ≤ length room →
    (rewritten b (length room) ≡ answered (table_size (version b))) × Holds (version b) b room (room_rewritten b room)
same_table b room a h l =
    let d = done b room ((judged_exactly newest b).1 a) h l in
    let n : length (take (table_size (version b)) b) ≡ table_size (version b) = length-take-le (table_size (version b)) b (rw (min-eq_left h) at a.sized) in (
      d.0,
      rw d.1 (
        take_at (take (table_size (version b)) b) (drop (table_size (version b)) room) (table_size (version b)) n,
        drop_at (take (table_size (version b)) b) (drop (table_size (version b)) room) (table_size (version b)) n,
      ),
    )

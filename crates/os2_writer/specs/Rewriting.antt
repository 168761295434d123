-- What rewriting a table gives: "One of version 0 to 5 that level 5 accepts, rewritten, is the same bytes up to its version's size."
use Rattle.std.specs.Prelude.{ℕ, ◌≡◌, List, ◌++◌, ltb, length, take, drop, ℤ}
use Rattle.std.proofs.Math.Option.{Option, none, some}
use Rattle.outcomes.specs.Firsts.{when, ◌then◌}
use Rattle.outcomes.specs.Outcomes.{Refusal, bare, Outcome, answered, unless}
use Rattle.level.specs.Levels.{newest}
use Rattle.level.specs.Sizes.{table_size}
use Rattle.os2_fields.specs.Catalogue.{field_of}
use Rattle.os2_fields.specs.Fields.{value_in, version}
use Rattle.os2_acceptance.specs.Acceptance.{judged}
use Rattle.os2_store.specs.Writing.{number_for, has_no_room, where_written, InVersion}

-- the reader's refusals at level 5, which are 2 and 3, then the writer's 4 and 5; 8 and 3 cannot follow. r is the length of the room
unfoldable pub unrewritten : List ℕ → ℕ → Option Refusal
unrewritten b r =
    judged newest b
    then when (ltb newest (version b)) (bare 4)
    then when (has_no_room (version b) r) (bare 5)

unfoldable pub rewritten : List ℕ → ℕ → Outcome ℕ
rewritten b r = unless (unrewritten b r) (answered (table_size (version b)))

-- which of the two says what is said
pub data Side : Type 0 where
  reader : Side
  writer : Side

-- the reader where it refuses the table, else the writer
abbrev pub side_with : Option Refusal → Side
side_with (some r) = reader
side_with none = writer

abbrev pub side_for : List ℕ → Side
side_for b = side_with (judged newest b)

-- the room: the table's own bytes up to its version's size, and then what was there; what it held, after a refusal
unfoldable pub room_rewritten : List ℕ → List ℕ → List ℕ
room_rewritten b room =
    where_written (rewritten b (length room)) (take (table_size (version b)) b ++ drop (table_size (version b)) room) room

-- xs are the whole numbers in the fields that the table's version has
abbrev pub Reading : List ℕ → List ℤ → Type 0
Reading b xs = (k : ℕ) → InVersion (version b) k → number_for xs k ≡ value_in b (field_of k)

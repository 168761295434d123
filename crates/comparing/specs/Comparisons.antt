-- Document 02, Ask 2: what a comparison answers, and what the lent room then holds.
use Rattle.std.specs.Prelude.{ℕ, List, Option as Maybe, Some, None, Result, Ok, Err}
use Rattle.std.proofs.Math.Option.{Option, none, some}
use Rattle.outcomes.specs.Firsts.{when, ◌then◌}
use Rattle.outcomes.specs.Outcomes.{Refusal, bare, refusal_of}
use Rattle.comparing.specs.declared.Side.{Side as Table}
use Rattle.comparing.specs.declared.Side.TheVariants as Table·
use Rattle.comparing.specs.declared.Blame.{Blame}
use Rattle.comparing.specs.Rooms.{is_too_many, front}

-- which of the two tables a refusal is about, or the call as a whole
pub data Side : Type 0 where
  Neither : Side
  Left : Side
  Right : Side

-- "which side and that refusal"
pub record Blamed : Type 0 where
  pub side : Side
  pub refusal : Refusal

abbrev pub on : Side → Refusal → Blamed
on side r = record { side = side; refusal = r }

-- the code's refusal with its side in these words
abbrev pub side_of : Maybe Table → Side
side_of None = Neither
side_of (Some Table·.Left) = Left
side_of (Some Table·.Right) = Right

abbrev pub blamed_of : Blame → Blamed
blamed_of b = on (side_of b.side) (refusal_of b.told)

-- the refusal of a side, where there is one
unfoldable pub of : Side → Option Refusal → Option Blamed
of side none = none
of side (some r) = some (on side r)

-- the order: the call's own refusal, "first and with no side"; "which side and that refusal, left first"; "29, after the inputs' own, exactly if there are
-- more differences than rows"
unfoldable pub blame : (call left right : Option Refusal) (differences numbers : ℕ) → Option Blamed
blame call left right differences numbers =
    of Neither call
    then of Left left
    then of Right right
    then when (is_too_many differences numbers) (on Neither (bare 29))

-- what a comparison answers
pub data Comparison : Type 0 where
  listed : ℕ → Comparison
  refused : Side → Refusal → Comparison

-- "success answers their number"
unfoldable pub answer_of : Option Blamed → ℕ → Comparison
answer_of none differences = listed differences
answer_of (some b) differences = refused b.side b.refusal

-- the room after it: on success the rows, and on a refusal "nothing is written"
unfoldable pub room_after : {N : Type 0} → Option Blamed → (rows room : List N) → List N
room_after none rows room = front rows room
room_after (some b) rows room = room

-- what the code's comparison says, by what each of its refusals says
abbrev pub said_by : {E : Type 0} → (E → Blamed) → Result ℕ E → Comparison
said_by why (Ok n) = listed n
said_by why (Err e) = refused (why e).side (why e).refusal

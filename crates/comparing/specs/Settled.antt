-- Document 02, Ask 2, in propositions, over any comparison: which answer it gives, and what the lent room then holds.
use Rattle.std.specs.Prelude.{◌*◌, ◌/◌, ◌<◌, ◌≤◌, List, ◌++◌, length, drop}
use Rattle.outcomes.specs.Outcomes.{Refusal, bare}
use Rattle.comparing.specs.Comparisons.{Neither, Left, Right}
use Rattle.comparing.specs.Lists.{ListOf}
use Rattle.comparing.specs.Rooms.{rows_of}
use Rattle.comparing.specs.Comparisons.{Comparison, listed, refused}

-- no refusal is given
abbrev pub Accepted : (Refusal → Type 0) → Type 0
Accepted Gets = (r : Refusal) → Gets r → ⊥

-- the answer, and the room after it: over what the call, the left and the right table get as a refusal, the order of differences, what differs, and a
-- difference's row
pub data Settled {A N : Type 0} (Call OnLeft OnRight : Refusal → Type 0) (Below : A → A → Type 0) (Differs : A → Type 0) (row : A → List N)
    (room : List N) : Comparison → List N → Type 0 where
  -- "1 for the level, first and with no side"
  call_refused : {r : Refusal} → Call r → Settled Call OnLeft OnRight Below Differs row room (refused Neither r) room
  -- "If an input is refused, the tool says which side and that refusal, left first, and lists nothing."
  left_refused : {r : Refusal} → Accepted Call → OnLeft r → Settled Call OnLeft OnRight Below Differs row room (refused Left r) room
  right_refused : {r : Refusal} → Accepted Call → Accepted OnLeft → OnRight r → Settled Call OnLeft OnRight Below Differs row room (refused Right r) room
  -- "29, after the inputs' own, exactly if there are more differences than rows; then nothing is written"
  too_many : {ds : List A} → Accepted Call → Accepted OnLeft → Accepted OnRight → ListOf Below Differs ds → length room / 5 < length ds →
      Settled Call OnLeft OnRight Below Differs row room (refused Neither (bare 29)) room
  -- "success answers their number, and other rows keep what they held"
  all_listed : {ds : List A} → Accepted Call → Accepted OnLeft → Accepted OnRight → ListOf Below Differs ds → length ds ≤ length room / 5 →
      Settled Call OnLeft OnRight Below Differs row room (listed (length ds)) (rows_of row ds ++ drop (5 * length ds) room)

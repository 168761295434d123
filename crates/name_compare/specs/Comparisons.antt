-- Document 02, Ask 2, of two 'name' tables: what the comparison answers, and what the lent room then holds.
use Rattle.std.specs.Prelude.{ℕ, List, length, Result}
use Rattle.std.proofs.Math.Option.{Option, none}
use Rattle.outcomes.specs.Outcomes.{bare}
use Rattle.name.specs.Refusals as refusals
use Rattle.name.specs.Acceptance.{faults}
use Rattle.comparing.specs.Rooms.{rows_of}
use Rattle.comparing.specs.Comparisons as side
use Rattle.comparing.specs.Comparisons.{Blamed, on, blame, Comparison, answer_of, room_after, said_by}
use Rattle.name_compare.specs.declared.Refusal.{Refusal}
use Rattle.name_compare.specs.declared.Refusal.TheVariants.{Left, Right, TooManyDifferences}
use Rattle.name_compare.specs.Differences.{differences, row_of}

-- 10 to 19 and 27, "left first"; then 29. The call has no refusal of its own
unfoldable pub blame_of : List ℕ → List ℕ → ℕ → Option Blamed
blame_of left right numbers = blame none (faults left) (faults right) (length (differences left right)) numbers

-- the answer, of room for so many numbers
unfoldable pub compared_of : List ℕ → List ℕ → ℕ → Comparison
compared_of left right numbers = answer_of (blame_of left right numbers) (length (differences left right))

-- the room after it
unfoldable pub room_of : List ℕ → List ℕ → List ℕ → List ℕ
room_of left right room = room_after (blame_of left right (length room)) (rows_of row_of (differences left right)) room

-- what the code's refusals and answers say
abbrev pub said_refusal : Refusal → Blamed
said_refusal (Left r) = on side.Left (refusals.said_refusal r)
said_refusal (Right r) = on side.Right (refusals.said_refusal r)
said_refusal TooManyDifferences = on side.Neither (bare 29)

abbrev pub said_compared : Result ℕ Refusal → Comparison
said_compared r = said_by said_refusal r

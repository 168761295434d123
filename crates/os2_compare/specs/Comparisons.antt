-- Document 02, Ask 2, of two 'OS/2' tables: what the comparison answers, and what the lent room then holds.
use Rattle.std.specs.Prelude.{ℕ, List, ltb, ℤ, length, Result}
use Rattle.std.proofs.Math.Option.{Option}
use Rattle.outcomes.specs.Firsts.{when}
use Rattle.outcomes.specs.Outcomes as outcomes
use Rattle.outcomes.specs.Outcomes.{bare}
use Rattle.level.specs.Levels.{newest}
use Rattle.os2_acceptance.specs.Acceptance.{judged}
use Rattle.os2_acceptance.specs.Replies as replies
use Rattle.comparing.specs.Rooms.{rows_of}
use Rattle.comparing.specs.Comparisons as side
use Rattle.comparing.specs.Comparisons.{Blamed, on, blame, Comparison, answer_of, room_after, said_by}
use Rattle.os2_compare.specs.declared.Refusal.{Refusal}
use Rattle.os2_compare.specs.declared.Refusal.TheVariants.{LevelAbove, Left, Right, TooManyDifferences}
use Rattle.os2_compare.specs.Differences.{differences, row_of}

-- "1 for the level, first and with no side"
unfoldable pub level_refusal : ℕ → Option outcomes.Refusal
level_refusal L = when (ltb newest L) (bare 1)

-- 1; then 2 and 3, "left first"; then 29
unfoldable pub blame_of : ℕ → List ℕ → List ℕ → ℕ → Option Blamed
blame_of L left right numbers = blame (level_refusal L) (judged L left) (judged L right) (length (differences L left right)) numbers

-- the answer, of room for so many numbers
unfoldable pub compared_of : ℕ → List ℕ → List ℕ → ℕ → Comparison
compared_of L left right numbers = answer_of (blame_of L left right numbers) (length (differences L left right))

-- the room after it
unfoldable pub room_of : ℕ → List ℕ → List ℕ → List ℤ → List ℤ
room_of L left right room = room_after (blame_of L left right (length room)) (rows_of row_of (differences L left right)) room

-- what the code's refusals and answers say
abbrev pub said_refusal : Refusal → Blamed
said_refusal LevelAbove = on side.Neither (bare 1)
said_refusal (Left r) = on side.Left (replies.said_refusal r)
said_refusal (Right r) = on side.Right (replies.said_refusal r)
said_refusal TooManyDifferences = on side.Neither (bare 29)

abbrev pub said_compared : Result ℕ Refusal → Comparison
said_compared r = said_by said_refusal r

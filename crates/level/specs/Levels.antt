-- Document 01, "Levels", and refusal 1.
use Rattle.std.specs.Prelude.{ℕ, cond, List, [], ◌∷◌, get_or, ltb, Result, Ok, Err}
use Rattle.outcomes.specs.Outcomes.{Refusal, bare, Outcome, outcome_of}
use Rattle.level.specs.declared.Level.{Level}
use Rattle.level.specs.declared.Level.TheVariants.{Oldest, One, Two, Three, Four, Newest}
use Rattle.level.specs.declared.LevelAbove.{LevelAbove}

-- the newest level, and the highest version that there is
abbrev pub newest : ℕ
newest = 5

-- the number of a level: "Oldest being 0 and Newest 5"
abbrev pub number_of : Level → ℕ
number_of Oldest = 0
number_of One = 1
number_of Two = 2
number_of Three = 3
number_of Four = 4
number_of Newest = 5

-- the levels in the order of their numbers
abbrev pub levels : List Level
levels = Oldest ∷ One ∷ Two ∷ Three ∷ Four ∷ Newest ∷ []

-- "only a checked number becomes a level": refused above 5
unfoldable pub level_of : ℕ → Result Level LevelAbove
level_of n = cond (ltb newest n) (Err record {}) (Ok (get_or levels n Newest))

-- the code's refusal and answer in document 01's numbers
abbrev pub said_above : LevelAbove → Refusal
said_above r = bare 1

abbrev pub said : Result Level LevelAbove → Outcome ℕ
said r = outcome_of number_of said_above r

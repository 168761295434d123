-- Document 02, Ask 2: "The list goes to lent room of so many rows, one a listed difference". A row is five numbers, and the room is one list of them.
use Rattle.std.specs.Prelude.{ℕ, ◌/◌, Bool, List, [], ◌∷◌, ◌++◌, ltb, length, drop}

-- the rows of a list, one after another
unfoldable pub rows_of : {A N : Type 0} → (A → List N) → List A → List N
rows_of row [] = []
rows_of row (d ∷ ds) = row d ++ rows_of row ds

-- how many rows so many numbers are: a remainder is no row
abbrev pub rows_in : ℕ → ℕ
rows_in numbers = numbers / 5

-- 29: "more differences than rows"
unfoldable pub is_too_many : (differences numbers : ℕ) → Bool
is_too_many differences numbers = ltb (rows_in numbers) differences

-- the room with some numbers at its front; "other rows keep what they held"
unfoldable pub front : {N : Type 0} → List N → List N → List N
front written room = written ++ drop (length written) room

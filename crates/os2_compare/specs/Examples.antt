-- Comparisons worked out by hand, of tables made from document 01's first one. negsuc x is the number -1 - x.
use Rattle.std.specs.Prelude.{ℕ, ◌≡◌, List, [], ◌∷◌, map, ℤ, pos, negsuc, replicate}
use Rattle.outcomes.specs.Outcomes.{bare, carrying}
use Rattle.os2_answers.specs.Examples.{with, first}
use Rattle.comparing.specs.Comparisons.{Neither, Left, Right}
use Rattle.comparing.specs.Comparisons.{listed, refused}
use Rattle.os2_compare.specs.Differences.{differences, row_of}
use Rattle.os2_compare.specs.Comparisons.{compared_of, room_of}

-- the first table with another weight, and as version 1 with two code pages that are 0
abbrev pub heavier : List ℕ
heavier = with 2 700 (first 78)

abbrev pub version_one : List ℕ
version_one = with 0 1 (first 86)

-- the field; on each side which of the three the answer is, and its value
abbrev pub row : ℕ → ℕ → ℤ → ℕ → ℤ → List ℤ
row field a x b y = pos field ∷ pos a ∷ x ∷ pos b ∷ y ∷ []

abbrev pub rows : ℕ → List ℕ → List ℕ → List (List ℤ)
rows L left right = map row_of (differences L left right)

-- code pages that are absent are not those that are 0; level 0 knows of neither, and does of the version
abbrev pub RowsHold : Type 0
RowsHold =
    rows 5 (first 78) (first 78)
    ∷ rows 5 (first 78) heavier
    ∷ rows 5 (with 1 65535 (first 78)) (first 78)
    ∷ rows 5 (first 78) version_one
    ∷ rows 5 version_one (first 78)
    ∷ rows 0 (first 78) version_one
    ∷ []
    ≡ []
    ∷ (row 2 1 (pos 400) 1 (pos 700) ∷ [])
    ∷ (row 1 1 (negsuc 0) 1 (pos 0) ∷ [])
    ∷ (row 0 1 (pos 0) 1 (pos 1) ∷ row 39 2 (pos 0) 1 (pos 0) ∷ row 40 2 (pos 0) 1 (pos 0) ∷ [])
    ∷ (row 0 1 (pos 1) 1 (pos 0) ∷ row 39 1 (pos 0) 2 (pos 0) ∷ row 40 1 (pos 0) 2 (pos 0) ∷ [])
    ∷ (row 0 1 (pos 0) 1 (pos 1) ∷ [])
    ∷ []

-- both tables too short: at a level above 5, and at level 5; a broken rule on the left before a short table on the right; the right one alone; one difference
-- in room for four numbers, and for five; none in no room
abbrev pub AnswersHold : Type 0
AnswersHold =
    compared_of 6 [] [] 0
    ∷ compared_of 5 (first 77) [] 0
    ∷ compared_of 5 (with 2 0 (first 78)) [] 0
    ∷ compared_of 5 (first 78) (first 77) 0
    ∷ compared_of 5 (first 78) heavier 4
    ∷ compared_of 5 (first 78) heavier 5
    ∷ compared_of 5 (first 78) (first 78) 0
    ∷ []
    ≡ refused Neither (bare 1)
    ∷ refused Left (bare 2)
    ∷ refused Left (carrying 3 1)
    ∷ refused Right (bare 2)
    ∷ refused Neither (bare 29)
    ∷ listed 1
    ∷ listed 0
    ∷ []

-- room for four numbers, and for seven
abbrev pub RoomsHold : Type 0
RoomsHold =
    room_of 5 (first 78) heavier (replicate 4 (pos 9))
    ∷ room_of 5 (first 78) heavier (replicate 7 (pos 9))
    ∷ []
    ≡ (pos 9 ∷ pos 9 ∷ pos 9 ∷ pos 9 ∷ [])
    ∷ (pos 2 ∷ pos 1 ∷ pos 400 ∷ pos 1 ∷ pos 700 ∷ pos 9 ∷ pos 9 ∷ [])
    ∷ []

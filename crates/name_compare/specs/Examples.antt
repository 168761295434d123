-- Two small tables compared by hand. Of the keys (1, 0, 0, n), 1 is only on the left and 4 only on the right; 2 is in both with other bytes, and 3 with the same
-- bytes in another place.
use Rattle.std.specs.Prelude.{ℕ, ◌≡◌, List, [], ◌∷◌, replicate}
use Rattle.outcomes.specs.Outcomes.{bare}
use Rattle.name_layout.specs.Keys.{key_from}
use Rattle.comparing.specs.Comparisons.{Neither, Left, Right}
use Rattle.comparing.specs.Comparisons.{listed, refused}
use Rattle.name_compare.specs.Differences.{Difference, differences}
use Rattle.name_compare.specs.Comparisons.{compared_of, room_of}

abbrev pub left : List ℕ
left =
    -- format, count, storage start
    0 ∷ 0 ∷ 0 ∷ 3 ∷ 0 ∷ 42 ∷
    -- platform, encoding, language, name, length, offset
    0 ∷ 1 ∷ 0 ∷ 0 ∷ 0 ∷ 0 ∷ 0 ∷ 1 ∷ 0 ∷ 1 ∷ 0 ∷ 0 ∷
    0 ∷ 1 ∷ 0 ∷ 0 ∷ 0 ∷ 0 ∷ 0 ∷ 2 ∷ 0 ∷ 1 ∷ 0 ∷ 1 ∷
    0 ∷ 1 ∷ 0 ∷ 0 ∷ 0 ∷ 0 ∷ 0 ∷ 3 ∷ 0 ∷ 2 ∷ 0 ∷ 2 ∷
    -- A, B, C D
    65 ∷ 66 ∷ 67 ∷ 68 ∷ []

abbrev pub right : List ℕ
right =
    0 ∷ 0 ∷ 0 ∷ 3 ∷ 0 ∷ 42 ∷
    0 ∷ 1 ∷ 0 ∷ 0 ∷ 0 ∷ 0 ∷ 0 ∷ 2 ∷ 0 ∷ 1 ∷ 0 ∷ 2 ∷
    0 ∷ 1 ∷ 0 ∷ 0 ∷ 0 ∷ 0 ∷ 0 ∷ 3 ∷ 0 ∷ 2 ∷ 0 ∷ 0 ∷
    0 ∷ 1 ∷ 0 ∷ 0 ∷ 0 ∷ 0 ∷ 0 ∷ 4 ∷ 0 ∷ 0 ∷ 0 ∷ 3 ∷
    -- C D, E
    67 ∷ 68 ∷ 69 ∷ []

-- a format that is neither 0 nor 1
abbrev pub in_other_format : List ℕ
in_other_format = 0 ∷ 2 ∷ 0 ∷ 0 ∷ 0 ∷ 6 ∷ []

-- the key (1, 0, 0, n)
abbrev pub named : ℕ → ℕ → Difference
named n w = record { key = key_from 1 0 0 n; which = w }

abbrev pub Listed : Type 0
Listed = differences left right ≡ named 1 1 ∷ named 2 3 ∷ named 4 2 ∷ []

-- two rows are too few; three, and two numbers more, are enough; a refused table on each side, and on both
abbrev pub AnswersHold : Type 0
AnswersHold =
    compared_of left right 14
    ∷ compared_of left right 17
    ∷ compared_of in_other_format left 17
    ∷ compared_of left [] 17
    ∷ compared_of in_other_format [] 17
    ∷ []
    ≡ refused Neither (bare 29)
    ∷ listed 3
    ∷ refused Left (bare 11)
    ∷ refused Right (bare 10)
    ∷ refused Left (bare 11)
    ∷ []

abbrev pub RoomsHold : Type 0
RoomsHold =
    room_of left right (replicate 14 9)
    ∷ room_of left right (replicate 17 9)
    ∷ []
    ≡ replicate 14 9
    ∷ (1 ∷ 0 ∷ 0 ∷ 1 ∷ 1 ∷ 1 ∷ 0 ∷ 0 ∷ 2 ∷ 3 ∷ 1 ∷ 0 ∷ 0 ∷ 4 ∷ 2 ∷ 9 ∷ 9 ∷ [])
    ∷ []

-- Document 02, Ask 3, on whole tables: "17 for a key below the one before, 19 for a key equal to it. .. 15 when the string starts beyond the storage end,
-- 27 when it starts within or at the end and runs over."
use Rattle.std.specs.Prelude.{ℕ, ◌/◌, ◌%◌, ◌≡◌, List, [], ◌∷◌, ◌++◌, map}
use Rattle.std.proofs.Math.Option.{some}
use Rattle.outcomes.specs.Outcomes.{refused, accepted}
use Rattle.name.specs.Acceptance.{check_of}

-- numbers of two bytes
abbrev pub words : List ℕ → List ℕ
words [] = []
words (n ∷ ns) = n / 256 ∷ n % 256 ∷ words ns

-- a byte between the records or tags and the storage, and four bytes of storage
abbrev pub rest : List ℕ
rest = 255 ∷ 97 ∷ 98 ∷ 99 ∷ 100 ∷ []

-- a table of one record with this language, and a string of this length at this offset
abbrev pub one : ℕ → ℕ → ℕ → List ℕ
one language length offset = words (0 ∷ 1 ∷ 19 ∷ 1 ∷ 0 ∷ language ∷ 6 ∷ length ∷ offset ∷ []) ++ rest

-- of one record, and no storage
abbrev pub empty : ℕ → ℕ → List ℕ
empty length offset = words (0 ∷ 1 ∷ 18 ∷ 1 ∷ 0 ∷ 0 ∷ 6 ∷ length ∷ offset ∷ [])

-- of two, with the keys (1, 2, 3, 6) and (p, e, l, n), of which the second has a string
abbrev pub both : ℕ → ℕ → ℕ → ℕ → ℕ → ℕ → List ℕ
both p e l n length offset = words (0 ∷ 2 ∷ 31 ∷ 1 ∷ 2 ∷ 3 ∷ 6 ∷ 0 ∷ 0 ∷ p ∷ e ∷ l ∷ n ∷ length ∷ offset ∷ []) ++ rest

-- of three, with the keys (1, 0, 0, a), (1, 0, 0, b) and (1, 0, 0, c), and empty strings
abbrev pub three : ℕ → ℕ → ℕ → List ℕ
three a b c = words (0 ∷ 3 ∷ 43 ∷ 1 ∷ 0 ∷ 0 ∷ a ∷ 0 ∷ 0 ∷ 1 ∷ 0 ∷ 0 ∷ b ∷ 0 ∷ 0 ∷ 1 ∷ 0 ∷ 0 ∷ c ∷ 0 ∷ 0 ∷ []) ++ rest

-- of one tag
abbrev pub tagged : ℕ → ℕ → List ℕ
tagged length offset = words (1 ∷ 0 ∷ 13 ∷ 1 ∷ length ∷ offset ∷ []) ++ rest

-- a string that ends with the storage, and one byte more: "document 01's string one byte too long now gives 27"
abbrev pub Ends : Type 0
Ends = map check_of (one 0 4 0 ∷ one 0 5 0 ∷ one 0 1 3 ∷ one 0 2 3 ∷ one 0 65535 3 ∷ [])
    ≡ accepted ∷ refused 27 (some 0) ∷ accepted ∷ refused 27 (some 0) ∷ refused 27 (some 0) ∷ []

-- a string that starts at the storage's end, empty and not, and one that starts beyond
abbrev pub Starts : Type 0
Starts = map check_of (one 0 0 4 ∷ one 0 1 4 ∷ one 0 0 5 ∷ one 0 1 5 ∷ one 0 0 65535 ∷ one 0 2 65535 ∷ [])
    ≡ accepted ∷ refused 27 (some 0) ∷ refused 15 (some 0) ∷ refused 15 (some 0) ∷ refused 15 (some 0) ∷ refused 15 (some 0) ∷ []

-- the same without storage
abbrev pub Empty : Type 0
Empty = map check_of (empty 0 0 ∷ empty 1 0 ∷ empty 0 1 ∷ empty 1 1 ∷ [])
    ≡ accepted ∷ refused 27 (some 0) ∷ refused 15 (some 0) ∷ refused 15 (some 0) ∷ []

-- the same of a tag's string: one number
abbrev pub Tags : Type 0
Tags = map check_of (tagged 4 0 ∷ tagged 5 0 ∷ tagged 0 4 ∷ tagged 1 4 ∷ tagged 0 5 ∷ [])
    ≡ accepted ∷ refused 16 (some 0) ∷ accepted ∷ refused 16 (some 0) ∷ refused 16 (some 0) ∷ []

-- the first part that differs decides, whatever the parts behind it are: a key above the one before, equal to it, and below it
abbrev pub Parts : Type 0
Parts = map (λ key. check_of (key 0 0))
    (both 2 1 2 5 ∷ both 1 3 2 5 ∷ both 1 2 4 5 ∷ both 1 2 3 7 ∷ both 1 2 3 6 ∷ both 1 2 3 5 ∷ both 1 2 2 7 ∷ both 1 1 4 7 ∷ both 0 3 4 7 ∷ [])
    ≡ accepted ∷ accepted ∷ accepted ∷ accepted ∷ refused 19 (some 1) ∷ refused 17 (some 1) ∷ refused 17 (some 1) ∷ refused 17 (some 1) ∷ refused 17 (some 1) ∷ []

-- keys that rise; a key below the one before, and one equal to it, in either order; a key equal to one further before
abbrev pub Order : Type 0
Order = map check_of (three 5 6 7 ∷ three 5 6 6 ∷ three 6 5 5 ∷ three 6 6 5 ∷ three 5 6 5 ∷ [])
    ≡ accepted ∷ refused 19 (some 2) ∷ refused 17 (some 1) ∷ refused 19 (some 1) ∷ refused 17 (some 2) ∷ []

-- "27 stands beside 15 in the order, 19 beside 17": a string at fault before a key, and before a language; a language before a key
abbrev pub Together : Type 0
Together = map check_of (both 1 2 3 5 5 0 ∷ both 1 2 3 6 5 0 ∷ both 1 2 3 5 0 5 ∷ both 1 2 3 6 0 5 ∷ one 32768 5 0 ∷ one 32768 0 5 ∷ both 0 0 32768 6 0 0 ∷ [])
    ≡ refused 27 (some 1) ∷ refused 27 (some 1) ∷ refused 15 (some 1) ∷ refused 15 (some 1) ∷ refused 27 (some 0) ∷ refused 15 (some 0)
    ∷ refused 18 (some 1) ∷ []

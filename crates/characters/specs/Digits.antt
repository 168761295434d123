-- The digits 0 to 9, by their codes, and the numbers that they write.
use Rattle.std.specs.Prelude.{ℕ, ◌+◌, ◌*◌, ◌-◌, ◌≤◌, Bool, true, ◌&&◌, List, [], ◌∷◌, leb}

-- 0 to 9, as a test and as a proposition
unfoldable pub digit : ℕ → Bool
digit c = leb 48 c && leb c 57

abbrev pub Digit : ℕ → Type 0
Digit c = (48 ≤ c) × (c ≤ 57)

-- every character of a text is a digit
unfoldable pub all_digits : List ℕ → Bool
all_digits [] = true
all_digits (c ∷ cs) = digit c && all_digits cs

-- a figure with one digit more
abbrev pub longer : ℕ → ℕ → ℕ
longer a c = a * 10 + (c - 48)

-- the number that a text of digits reads as, behind a number read already
abbrev pub reads_from : ℕ → List ℕ → ℕ
reads_from n [] = n
reads_from n (d ∷ ds) = reads_from (longer n d) ds

-- Document 01, "Numbers are decimal": a number as text.
use Rattle.std.specs.Prelude.{ℕ, zero, suc, ◌+◌, ◌/◌, ◌%◌, ◌^◌, ◌<◌, ◌≡◌, cond, List, [], ◌∷◌, ltb, get_or}
use Rattle.characters.specs.Digits.{reads_from}

-- the code of a number's last digit
abbrev pub last_digit : ℕ → ℕ
last_digit n = 48 + n % 10

-- the digits of n, at most k of them, and what follows them
unfoldable pub digits : ℕ → ℕ → List ℕ → List ℕ
digits zero n after = after
digits (suc k) n after = cond (ltb n 10) (last_digit n ∷ after) (digits k (n / 10) (last_digit n ∷ after))

-- the most digits of a number of 64 bits
abbrev pub most_digits : ℕ
most_digits = 20

-- the digits of n, the most significant first, with no leading zero
unfoldable pub decimal : ℕ → List ℕ
decimal n = digits most_digits n []

-- the digits of a number of 64 bits, or of any below 10 ^ 20, read as that number
abbrev pub DecimalReads : Type 0
DecimalReads = (n : ℕ) → n < 10 ^ most_digits → reads_from 0 (decimal n) ≡ n

-- and do not start with a zero, unless the number is 0
abbrev pub NoLeadingZero : Type 0
NoLeadingZero = (n : ℕ) → 0 < n → n < 10 ^ most_digits → 48 < get_or (decimal n) 0 0

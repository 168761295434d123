-- Document 01, "Well formed": a PostScript string, one byte a character or two (wide), and when two strings differ.
use Rattle.std.specs.Prelude.{ℕ, Bool, not, ◌||◌, List, ltb, eqb, length}
use Rattle.std.proofs.Math.Option.{Option}
use Rattle.outcomes.specs.Firsts.{when, ◌then◌, first_among}
use Rattle.outcomes.specs.Outcomes.{Refusal, bare}
use Rattle.characters.specs.Strings.{characters, char, odd}
use Rattle.charset.specs.Allowed.{allowed}

-- not "1 to 63 characters"
unfoldable pub too_few : ℕ → Bool
too_few n = ltb n 1

unfoldable pub is_too_many : ℕ → Bool
is_too_many n = ltb 63 n

unfoldable pub wrong_count : ℕ → Bool
wrong_count n = too_few n || is_too_many n

-- the character at k is not one of the 84; so neither is a two-byte character whose high byte isn't 0
unfoldable pub other_at : List ℕ → ℕ → Option Refusal
other_at l k = when (not (allowed (char l k))) (bare 23)

-- 23: an odd length where a character has two bytes, a wrong count, or another character
unfoldable pub ill_formed : Bool → List ℕ → Option Refusal
ill_formed wide bytes =
    when (odd wide bytes) (bare 23)
    then when (wrong_count (length (characters wide bytes))) (bare 23)
    then first_among (other_at (characters wide bytes)) (length (characters wide bytes))

-- the characters at k differ
unfoldable pub differ_at : List ℕ → List ℕ → ℕ → Option Refusal
differ_at a b k = when (not (eqb (char a k) (char b k))) (bare 24)

-- 24: "the two differ", in their count or in a character
unfoldable pub differ : List ℕ → List ℕ → Option Refusal
differ a b = when (not (eqb (length a) (length b))) (bare 24) then first_among (differ_at a b) (length b)

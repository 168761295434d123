-- Document 01, "PostScript name and version number": the version number in the characters of a string.
use Rattle.std.specs.Prelude.{ℕ, zero, suc, ◌+◌, Bool, cond, not, ◌&&◌, List, [], ◌∷◌, ltb, eqb, length, drop, Option as Maybe, Some, None}
use Rattle.std.proofs.Math.Option.{Option, none, some}
use Rattle.outcomes.specs.Firsts.{when, first_among}
use Rattle.outcomes.specs.Outcomes.{bare, Outcome, answered, unless, found_or}
use Rattle.characters.specs.Digits.{digit, longer}
use Rattle.characters.specs.Strings.{characters, char, odd}
use Rattle.version_text.specs.declared.Version.{Version}

-- the code of the period; a two-byte character with a high byte above 0 is none, and no digit
unfoldable pub period : ℕ → Bool
period c = eqb c 46

-- how many digits a text starts with: they "are taken as long as they go"
unfoldable pub digits : List ℕ → ℕ
digits [] = 0
digits (c ∷ cs) = cond (digit c) (suc (digits cs)) 0

-- the place after the digits that start at i
unfoldable pub group_end : List ℕ → ℕ → ℕ
group_end l i = i + digits (drop i l)

-- the figure of n digits that start at i; leading zeros are allowed
unfoldable pub figure : List ℕ → ℕ → ℕ → ℕ
figure l i zero = 0
figure l i (suc n) = longer (figure l i n) (char l (i + n))

-- the figure of all the digits that start at i
unfoldable pub group_figure : List ℕ → ℕ → ℕ
group_figure l i = figure l i (digits (drop i l))

-- "each group's figure is below 65,535"
unfoldable pub small : ℕ → Bool
small a = ltb a 65535

-- a digit at i, which "doesn't follow a digit"
unfoldable pub may_start : List ℕ → ℕ → Bool
may_start l zero = digit (char l 0)
may_start l (suc i) = not (digit (char l i)) && digit (char l (suc i))

-- "a number is digits, a period, digits": whether the digit groups that start at i and at k make one
unfoldable pub is_number : List ℕ → ℕ → ℕ → Bool
is_number l i k =
    may_start l i && period (char l (group_end l i)) && digit (char l k) && small (group_figure l i) && small (group_figure l k)

-- the figures before and after the period
pub record Figures : Type 0 where
  pub major : ℕ
  pub minor : ℕ

-- the number that a start yields; the second group starts right after the period
unfoldable pub number_at : List ℕ → ℕ → Option Figures
number_at l i =
    let k : ℕ = group_end l i + 1 in
    when (is_number l i k) (record { major = group_figure l i; minor = group_figure l k })

-- "the first start, from the left, that yields a number wins"
abbrev pub first_number : List ℕ → Option Figures
first_number l = first_among (number_at l) (length l)

-- the number found, or 25: "no version number in the string"; "a two-byte string of odd length gives 25"
unfoldable pub version_in : Bool → List ℕ → Outcome Figures
version_in wide bytes = unless (when (odd wide bytes) (bare 25)) (found_or (bare 25) (first_number (characters wide bytes)) answered)

-- the code's number so, and its answer
abbrev pub figures_of : Maybe Version → Option Figures
figures_of (Some v) = some (record { major = v.major; minor = v.minor })
figures_of None = none

abbrev pub said : Maybe Version → Outcome Figures
said v = found_or (bare 25) (figures_of v) answered

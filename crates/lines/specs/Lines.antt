-- Document 01, end of "Examples to check against": the lines that any listing may have, each as its bytes.
use Rattle.std.specs.Prelude.{ℕ, ◌+◌, cond, List, ◌++◌, ltb, length}
use Prim.Native.String.{String}
use Rattle.std.proofs.Math.Option.{Option, none, some}
use Rattle.characters.specs.Texts.{codes}
use Rattle.outcomes.specs.Outcomes.{Refusal}
use Rattle.lines.specs.Numerals.{most_digits, decimal}

-- the bytes that a line has room for
abbrev pub line_room : ℕ
line_room = 160

-- a text and a number behind it
abbrev pub numbered : String → ℕ → List ℕ
numbered text n = codes text ++ decimal n

-- the one line "`refused 19 at 1`" (document 02, Ask 3). "Without a place: `refused 11`"
abbrev pub refused_line : ℕ → Option ℕ → List ℕ
refused_line n (some k) = numbered "refused " n ++ numbered " at " k ++ codes "\n"
refused_line n none = numbered "refused " n ++ codes "\n"

-- the most bytes of such a line
abbrev pub refusal_room : ℕ
refusal_room = 8 + most_digits + (4 + most_digits) + 1

-- the line of a refusal
abbrev pub refusal_line : Refusal → List ℕ
refusal_line r = refused_line r.number r.carried

-- "more gives the line `too long`"
unfoldable pub too_long : List ℕ
too_long = codes "too long\n"

-- "at most 65,536 bytes": what is written for an input of which a listing is made
unfoldable pub listed : (input listing : List ℕ) → List ℕ
listed input listing = cond (ltb 65536 (length input)) too_long listing

-- Document 01, "PostScript name and version number": the characters of a string, one byte each or two.
use Rattle.std.specs.Prelude.{ℕ, ◌+◌, ◌*◌, ◌%◌, Bool, true, false, ◌&&◌, List, [], ◌∷◌, eqb, length, get_or}

-- the codes of two bytes each, the high byte first; a last byte alone makes none
abbrev pub pairs : List ℕ → List ℕ
pairs [] = []
pairs (high ∷ []) = []
pairs (high ∷ low ∷ bytes) = (high * 256 + low) ∷ pairs bytes

-- the codes of a string's characters: "one byte a character", or wide, "two bytes a character"
abbrev pub characters : Bool → List ℕ → List ℕ
characters false bytes = bytes
characters true bytes = pairs bytes

-- the code of the character at a place, and 0 past the end
unfoldable pub char : List ℕ → ℕ → ℕ
char l i = get_or l i 0

-- "a two-byte string of odd length"
unfoldable pub odd : Bool → List ℕ → Bool
odd wide bytes = wide && eqb (length bytes % 2) 1

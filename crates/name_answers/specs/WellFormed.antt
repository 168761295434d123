-- Document 01, "Well formed": a PostScript string, one byte a character or two (wide), in plain propositions.
use Rattle.std.specs.Prelude.{ℕ, ◌*◌, ◌%◌, ◌≤◌, ◌<◌, ◌≡◌, Bool, true, List, length, get_or}
use Rattle.characters.specs.Strings.{characters, char}
use Rattle.charset.specs.Allowed.{Allowed}

-- "1 to 63 characters", each one of the 84; a string of two bytes a character "has an even length and each high byte 0"
pub record WellFormed (wide : Bool) (bytes : List ℕ) : Type 0 where
  pub least : 1 ≤ length (characters wide bytes)
  pub most : length (characters wide bytes) ≤ 63
  pub codes : (k : ℕ) → k < length (characters wide bytes) → Allowed (char (characters wide bytes) k)
  pub even : wide ≡ true → length bytes % 2 ≡ 0
  pub high : wide ≡ true → (k : ℕ) → k * 2 < length bytes → get_or bytes (k * 2) 0 ≡ 0

-- Document 02, Ask 6: "one read in a table of 256 entries shall settle each character's byte, and one test over the whole table shall show that it allows
-- exactly document 01's 84". An entry is one bit: that of code n is bit n mod 64, counted from the low end, of word n div 64.
use Rattle.std.specs.Prelude.{ℕ, ◌<◌, ◌/◌, ◌%◌, ◌^◌, ◌≡◌, Bool, true, List, ◌↔◌, eqb, get_or}
use Rattle.charset.specs.Allowed.{Allowed}

-- the entry of a code, in a table of such words
unfoldable pub entry_of : List ℕ → ℕ → Bool
entry_of words c = eqb (get_or words (c / 64) 0 / 2 ^ (c % 64) % 2) 1

-- "it allows exactly document 01's 84"
pub record AllowsExactly (words : List ℕ) : Type 0 where
  pub each : (c : ℕ) → c < 256 → (entry_of words c ≡ true) ↔ Allowed c

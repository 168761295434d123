-- The level that a word of decimal digits gives.
use Rattle.std.specs.Prelude.{ℕ, ◌+◌, min, ◌&&◌, List, ltb, length}
use Rattle.std.proofs.Math.Option.{Option}
use Rattle.outcomes.specs.Firsts.{when}
use Rattle.characters.specs.Digits.{all_digits, reads_from}
use Rattle.level.specs.Levels.{newest}

-- the number that its digits read as, of which 6 stands for any above 5; none where the word is empty or has another character
unfoldable pub level_in : List ℕ → Option ℕ
level_in word = when (ltb 0 (length word) && all_digits word) (min (newest + 1) (reads_from 0 word))

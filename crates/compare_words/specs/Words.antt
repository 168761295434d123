-- What a comparison says, in the words of C: what stands in each member of its struct. A member that does not apply is 0.
use Rattle.std.specs.Prelude.{ℕ}
use Rattle.refusal_words.specs.Words.{no_refusal, told_words}
use Rattle.comparing.specs.Comparisons.{Side}
use Rattle.comparing.specs.Comparisons.{Neither, Left, Right}
use Rattle.comparing.specs.Comparisons.{Blamed, on, Comparison, listed, refused}
use Rattle.compare_words.specs.declared.GvCompared.{GvCompared}

-- "which side"
abbrev pub side_number : Side → ℕ
side_number Neither = 0
side_number Left = 1
side_number Right = 2

-- "which side and that refusal"
abbrev pub blamed_words : Blamed → GvCompared
blamed_words b = record { refusal = told_words b.refusal; side = side_number b.side; rows = 0 }

-- "success answers their number"
unfoldable pub compared_words : Comparison → GvCompared
compared_words (refused side r) = blamed_words (on side r)
compared_words (listed n) = record { refusal = no_refusal; side = 0; rows = n }

-- An answer on a 'name' table in the words of C: what stands in each member of the structs. A member that does not apply is 0.
use Rattle.std.specs.Prelude.{ℕ}
use Rattle.outcomes.specs.Outcomes.{Outcome, refused, answered}
use Rattle.name_search.specs.declared.Text.{Text}
use Rattle.name_answers.specs.Versions.{Reading}
use Rattle.refusal_words.specs.Words.{refusal_words, no_refusal}
use Rattle.name_words.specs.declared.GvFound.{GvFound}
use Rattle.name_words.specs.declared.GvText.{GvText}
use Rattle.name_words.specs.declared.GvVersion.{GvVersion}

-- of a lookup: a string's start and length, its record's number, and, whatever is answered, how many records were looked at
unfoldable pub found_words : Outcome Text → ℕ → GvFound
found_words (refused n c) looked = record { refusal = refusal_words n c; start = 0; length = 0; «record» = 0; looked = looked }
found_words (answered x) looked = record { refusal = no_refusal; start = x.start; length = x.len; «record» = x.«record»; looked = looked }

-- of the PostScript question: a string's start and length, and its record's number
unfoldable pub text_words : Outcome Text → GvText
text_words (refused n c) = record { refusal = refusal_words n c; start = 0; length = 0; «record» = 0 }
text_words (answered x) = record { refusal = no_refusal; start = x.start; length = x.len; «record» = x.«record» }

-- the figures before and after the period, and the number of the record whose string they stand in
unfoldable pub version_words : Outcome Reading → GvVersion
version_words (refused n c) = record { refusal = refusal_words n c; major = 0; minor = 0; «record» = 0 }
version_words (answered v) = record { refusal = no_refusal; major = v.major; minor = v.minor; «record» = v.«record» }

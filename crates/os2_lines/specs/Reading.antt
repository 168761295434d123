-- What a line is of, as a question and as its text, and what the function that puts a value asks of the table.
use Rattle.std.specs.Prelude.{ℕ, ◌<◌, ◌≡◌, List}
use Rattle.std.proofs.Math.Option.{none}
use Rattle.characters.specs.Texts.{codes}
use Rattle.lines.specs.Numerals.{decimal}
use Rattle.os2_fields.specs.Catalogue.{field_count}
use Rattle.os2_fields.specs.Fields.{version}
use Rattle.os2_acceptance.specs.Acceptance.{judged}
use Rattle.os2_questions.specs.declared.Question.{Question}
use Rattle.os2_questions.specs.declared.Question.TheVariants as Question·
use Rattle.os2_questions.specs.declared.Case.TheVariants.{Value}
use Rattle.os2_questions.specs.Questions.{since, on_whole}
use Rattle.os2_questions.specs.Cases.{case_of}
use Rattle.os2_lines.specs.declared.Row.{Row}
use Rattle.os2_lines.specs.declared.Row.TheVariants.{Field, Rights, StylePosition, OpticalSizes}

-- what it asks
abbrev pub asked : Row → Question
asked (Field k) = Question·.Field k
asked Rights = Question·.Rights
asked StylePosition = Question·.StylePosition
asked OpticalSizes = Question·.OpticalSizes

-- what it starts with
abbrev pub named : Row → List ℕ
named (Field k) = decimal k
named Rights = codes "rights"
named StylePosition = codes "style position"
named OpticalSizes = codes "optical sizes"

-- a field that there is
abbrev pub InRange : Row → Type 0
InRange (Field k) = k < field_count
InRange Rights = Unit {0}
InRange StylePosition = Unit {0}
InRange OpticalSizes = Unit {0}

-- a level accepts the table and answers the line with a value
pub record Given (b : List ℕ) (row : Row) : Type 0 where
  pub level : ℕ
  pub accepted : judged level b ≡ none
  pub range : InRange row
  pub case : case_of (since (asked row)) (on_whole (asked row)) level (version b) ≡ Value

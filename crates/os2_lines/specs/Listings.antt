-- The listing of an 'OS/2' table at a level, as the bytes of its lines. What a line says is the answer of `given`, which document 01 settles; how it
-- reads stands in docs/DECISIONS.md.
use Rattle.std.specs.Prelude.{ℕ, zero, suc, cond, List, [], ◌++◌, ltb, eqb}
use Rattle.outcomes.specs.Outcomes.{Outcome, refused, answered}
use Rattle.characters.specs.Texts.{codes}
use Rattle.lines.specs.Numerals.{decimal}
use Rattle.lines.specs.Lines.{refused_line, listed}
use Rattle.os2_fields.specs.Fields.{raw}
use Rattle.os2_acceptance.specs.Acceptance.{checked}
use Rattle.os2_questions.specs.declared.Question.{Question}
use Rattle.os2_questions.specs.declared.Question.TheVariants.{Field, Rights, StylePosition, OpticalSizes}
use Rattle.os2_answers.specs.Values.{Value, integer, rights, position, sizes, Said, value, absent, not_known}
use Rattle.os2_answers.specs.Asking.{given}
use Rattle.os2_figures.specs.Figures.{signed_text, rights_text, position_text, sizes_room, sizes_text}

-- a value of a table. Fields 2 and 3 are weight and width, 46 and 47 the lower and upper optical size
abbrev pub value_text : List ℕ → Value → List ℕ
value_text b (integer x) = signed_text x
value_text b (rights k) = rights_text k
value_text b (position w p) = position_text (raw b 2) (raw b 3)
value_text b (sizes s) = sizes_text (raw b 46) (raw b 47) s

-- "Each answer is one of three things: a value, absent, or not known."
abbrev pub answer_text : List ℕ → Said → List ℕ
answer_text b (value v) = value_text b v
answer_text b absent = codes "absent"
answer_text b not_known = codes "not known"

-- the most bytes of an answer: those of optical sizes
abbrev pub answer_room : ℕ
answer_room = sizes_room

-- line k asks for field k; lines 48, 49 and 50 ask for rights, style position and optical sizes
unfoldable pub question_of : ℕ → Question
question_of k = cond (ltb k 48) (Field k) (cond (eqb k 48) Rights (cond (eqb k 49) StylePosition OpticalSizes))

-- what a line starts with
unfoldable pub name_of : ℕ → List ℕ
name_of k = cond (ltb k 48) (decimal k) (cond (eqb k 48) (codes "rights") (cond (eqb k 49) (codes "style position") (codes "optical sizes")))

-- line k of a table that level L accepts
unfoldable pub line_at : ℕ → List ℕ → ℕ → List ℕ
line_at L b k = name_of k ++ codes " " ++ answer_text b (given L b (question_of k)) ++ codes "\n"

-- the lines 0, 1, .., n - 1
unfoldable pub lines_below : ℕ → List ℕ → ℕ → List ℕ
lines_below L b zero = []
lines_below L b (suc n) = lines_below L b n ++ line_at L b n

-- the listing of a table of which a level says so
abbrev pub after_check : ℕ → List ℕ → Outcome (Unit {0}) → List ℕ
after_check L b (refused n c) = refused_line n c
after_check L b (answered u) = lines_below L b 51

-- the whole listing of an input
unfoldable pub listing_of : ℕ → List ℕ → List ℕ
listing_of L b = listed b (after_check L b (checked L b))

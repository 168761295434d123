-- What a level answers to a question: the refusals in document 01's order, then the answer.
use Rattle.std.specs.Prelude.{ℕ, ◌+◌, ◌/◌, ◌%◌, List, ltb, pos}
use Rattle.std.proofs.Math.Option.{Option}
use Rattle.outcomes.specs.Firsts.{when, ◌then◌}
use Rattle.outcomes.specs.Outcomes.{Refusal, bare, Outcome, answered, unless}
use Rattle.level.specs.Levels.{newest}
use Rattle.os2_rules.specs.Bits.{bit}
use Rattle.os2_fields.specs.Catalogue.{field_of}
use Rattle.os2_fields.specs.Fields.{raw, version}
use Rattle.os2_style.specs.Style.{rights_of, float, percent_of, sizes_of}
use Rattle.os2_acceptance.specs.Acceptance.{judged}
use Rattle.os2_questions.specs.declared.Question.{Question}
use Rattle.os2_questions.specs.declared.Question.TheVariants.{Field, SelectionBit, UnicodeBit, CodePageBit, Rights, StylePosition, OpticalSizes}
use Rattle.os2_questions.specs.declared.Case.{Case}
use Rattle.os2_questions.specs.declared.Case.TheVariants as Case·
use Rattle.os2_questions.specs.Questions.{own_refusal, since, on_whole}
use Rattle.os2_questions.specs.Cases.{case_of}
use Rattle.os2_answers.specs.Values.{Value, integer, rights, position, sizes, Said, value, absent, not_known, field_value}

-- the value asked for. Unicode ranges are fields 26 to 29, code pages 39 and 40
unfoldable pub value_of : List ℕ → Question → Value
value_of b (Field k) = integer (field_value b (field_of k))
value_of b (SelectionBit n) = integer (pos (bit n (raw b 31)))
value_of b (UnicodeBit n) = integer (pos (bit (n % 32) (raw b (26 + n / 32))))
value_of b (CodePageBit n) = integer (pos (bit (n % 32) (raw b (39 + n / 32))))
value_of b Rights = rights (rights_of (raw b 4))
value_of b StylePosition = position (float (raw b 2)) (percent_of (raw b 3))
value_of b OpticalSizes = sizes (sizes_of (raw b 46) (raw b 47))

-- the answer in each case
abbrev pub said_case : Case → Value → Said
said_case Case·.NotKnown v = not_known
said_case Case·.Absent v = absent
said_case Case·.Value v = value v

-- what a level answers on a table that it accepts
unfoldable pub given : ℕ → List ℕ → Question → Said
given L b q = said_case (case_of (since q) (on_whole q) L (version b)) (value_of b q)

-- 1, then the question's own number: what needs no table
unfoldable pub before_table : ℕ → Question → Option Refusal
before_table L q = when (ltb newest L) (bare 1) then own_refusal q

-- then 2 and 3, of the table, and "the answer last"
unfoldable pub ask : ℕ → List ℕ → Question → Outcome Said
ask L b q = unless (before_table L q then judged L b) (answered (given L b q))

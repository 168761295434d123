-- Each arm is the case that `case_of` finds; rule 2 keeps the width class in the table of nine.
use Prim.Native.Nat.{zero-le}
use mathlib.Core.Path.{refl, sym}
use native.Mathlib.Omega.{arith}
use Rattle.os2_fields.specs.Catalogue.{catalogue, field_of}
use Rattle.os2_fields.specs.Fields.{values_of}
use Rattle.os2_acceptance.proofs.Accepting.{open_two, open_word, open_rules}
use Rattle.os2_questions.specs.declared.Question.TheVariants.{StylePosition}
use Rattle.os2_questions.specs.Questions.{since, on_whole}
use Rattle.os2_questions.proofs.Cases.{held}
use Rattle.os2_answers.specs.Asking.{value_of}
use Rattle.os2_answers.proofs.Cases.{given_case}
use Rattle.os2_answers.proofs.style_answer.Goals as goal

pub case_of-requires : goal.case_of-requires
case_of-requires c = open_two _ _ c.args.table.now.accepted

pub word-requires : goal.word-requires
unfolding field_of catalogue
word-requires c = open_word _ _ c.args.table.now.accepted 2 (omega arith) refl zero-le zero-le

pub word-requires-in-Value : goal.word-requires-in-Value
unfolding field_of catalogue
word-requires-in-Value c = open_word _ _ c.args.table.now.accepted 3 (omega arith) refl zero-le zero-le

pub position_of-requires : goal.position_of-requires
unfolding since values_of field_of catalogue
position_of-requires c = let h = held _ _ _ _ (sym c.in-Value.ensures) in
    rw c.word-in-Value.ensures ((open_rules _ _ c.args.table.now.accepted (h.old refl) 2).rule_2 refl)

pub returns-in-NotKnown : goal.returns-in-NotKnown
unfolding since on_whole
returns-in-NotKnown c = given_case _ _ StylePosition c.in-NotKnown.ensures

pub returns-in-Absent : goal.returns-in-Absent
unfolding since on_whole
returns-in-Absent c = given_case _ _ StylePosition c.in-Absent.ensures

pub returns-in-Value : goal.returns-in-Value
unfolding since on_whole value_of field_of catalogue
returns-in-Value c = rw (c.position_of.ensures.0, c.position_of.ensures.1, c.word-in-Value.ensures, c.word.ensures)
    (given_case _ _ StylePosition c.in-Value.ensures)

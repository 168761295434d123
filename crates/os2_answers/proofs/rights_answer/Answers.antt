-- Each arm is the case that `case_of` finds; fsType lies within every accepted table.
use Prim.Native.Nat.{zero-le}
use mathlib.Core.Path.{refl, ap, ◌∙◌}
use native.Mathlib.Omega.{arith}
use Rattle.os2_fields.specs.Catalogue.{catalogue, field_of}
use Rattle.os2_style.specs.Style.{rights_of}
use Rattle.os2_acceptance.proofs.Accepting.{open_two, open_word}
use Rattle.os2_questions.specs.declared.Question.TheVariants.{Rights}
use Rattle.os2_questions.specs.Questions.{since, on_whole}
use Rattle.os2_answers.specs.Values.{value, rights}
use Rattle.os2_answers.specs.Asking.{value_of}
use Rattle.os2_answers.proofs.Cases.{given_case}
use Rattle.os2_answers.proofs.rights_answer.Goals as goal

pub case_of-requires : goal.case_of-requires
case_of-requires c = open_two _ _ c.args.table.now.accepted

pub word-requires : goal.word-requires
unfolding field_of catalogue
word-requires c = open_word _ _ c.args.table.now.accepted 4 (omega arith) refl zero-le zero-le

pub returns-in-NotKnown : goal.returns-in-NotKnown
unfolding since on_whole
returns-in-NotKnown c = given_case _ _ Rights c.in-NotKnown.ensures

pub returns-in-Absent : goal.returns-in-Absent
unfolding since on_whole
returns-in-Absent c = given_case _ _ Rights c.in-Absent.ensures

pub returns-in-Value : goal.returns-in-Value
unfolding since on_whole value_of field_of catalogue
returns-in-Value c = ap value (ap rights (c.rights_of.ensures ∙ ap rights_of c.word.ensures))
    ∙ given_case _ _ Rights c.in-Value.ensures

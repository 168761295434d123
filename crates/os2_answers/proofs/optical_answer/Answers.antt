-- Each arm is the case that `case_of` finds; sizes that are known and there lie within an accepted table.
use mathlib.Core.Path.{refl, sym, ap, ◌∙◌}
use native.Mathlib.Omega.{arith}
use Rattle.os2_fields.specs.Catalogue.{catalogue, field_of}
use Rattle.os2_acceptance.proofs.Accepting.{open_two, open_word}
use Rattle.os2_questions.specs.declared.Question.TheVariants.{OpticalSizes}
use Rattle.os2_questions.specs.Questions.{since, on_whole}
use Rattle.os2_questions.proofs.Cases.{held}
use Rattle.os2_answers.specs.Values.{value, sizes}
use Rattle.os2_answers.specs.Asking.{value_of}
use Rattle.os2_answers.proofs.Cases.{given_case}
use Rattle.os2_answers.proofs.optical_answer.Goals as goal

pub case_of-requires : goal.case_of-requires
case_of-requires c = open_two _ _ c.args.table.now.accepted

pub word-requires : goal.word-requires
unfolding since field_of catalogue
word-requires c = let h = held _ _ _ _ (sym c.in-Value.ensures) in
    open_word _ _ c.args.table.now.accepted 46 (omega arith) refl h.known h.there

pub word-requires-in-Value : goal.word-requires-in-Value
unfolding since field_of catalogue
word-requires-in-Value c = let h = held _ _ _ _ (sym c.in-Value.ensures) in
    open_word _ _ c.args.table.now.accepted 47 (omega arith) refl h.known h.there

pub returns-in-NotKnown : goal.returns-in-NotKnown
unfolding since on_whole
returns-in-NotKnown c = given_case _ _ OpticalSizes c.in-NotKnown.ensures

pub returns-in-Absent : goal.returns-in-Absent
unfolding since on_whole
returns-in-Absent c = given_case _ _ OpticalSizes c.in-Absent.ensures

pub returns-in-Value : goal.returns-in-Value
unfolding since on_whole value_of field_of catalogue
returns-in-Value c = ap value (ap sizes (c.sizes_of.ensures ∙ rw (c.word-in-Value.ensures, c.word.ensures)))
    ∙ given_case _ _ OpticalSizes c.in-Value.ensures

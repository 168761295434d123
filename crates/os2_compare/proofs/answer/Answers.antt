-- Each arm is the case that `case_of` finds; a field that is known and there lies within an accepted table.
use mathlib.Core.Path.{sym, ap, ◌∙◌}
use mir.Facts.{to_z-of_z}
use mir.Syntax.{w64}
use Rattle.os2_acceptance.proofs.Accepting.{open_two}
use Rattle.os2_questions.proofs.Cases.{held}
use Rattle.os2_answers.specs.declared.Answer.TheVariants.{Value}
use Rattle.os2_compare.proofs.Answers.{answer_case, entry_lies}
use borrow.Author.Rules.{rules}
use Rattle.os2_compare.proofs.answer.Goals as goal

pub case_of-requires : goal.case_of-requires
case_of-requires c = open_two _ _ c.requires.accepted

pub value-requires : goal.value-requires
value-requires c = let h = held _ _ _ _ (sym c.in-Value.ensures) in
    entry_lies c.requires h.known h.there

pub returns-in-NotKnown : goal.returns-in-NotKnown
returns-in-NotKnown c = answer_case _ _ _ c.in-NotKnown.ensures

pub returns-in-Absent : goal.returns-in-Absent
returns-in-Absent c = answer_case _ _ _ c.in-Absent.ensures

pub returns-in-Value : goal.returns-in-Value
returns-in-Value c = ap Value (to_z-of_z {w = w64} (search rules) ∙ c.value.ensures)
    ∙ answer_case _ _ _ c.in-Value.ensures

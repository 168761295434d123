-- Each arm is the case that `case_of` finds; a field that is known and there lies within an accepted table.
use mathlib.Core.Path.{sym, ap, ◌∙◌}
use lib.IntN.{ℤ}
use mir.Facts.{to_z-of_z}
use mir.Syntax.{w64}
use Rattle.os2_acceptance.proofs.Accepting.{open_two, open_lies}
use Rattle.os2_questions.specs.declared.Question.TheVariants.{Field}
use Rattle.os2_questions.specs.Questions.{since, on_whole}
use Rattle.os2_questions.proofs.Cases.{held}
use Rattle.os2_answers.specs.Values.{value, integer}
use Rattle.os2_answers.specs.Asking.{value_of}
use Rattle.os2_answers.proofs.Cases.{given_case}
use borrow.Author.Rules.{rules}
use Rattle.os2_answers.proofs.field_answer.Goals as goal

pub case_of-requires : goal.case_of-requires
case_of-requires c = open_two _ _ c.args.table.now.accepted

pub field_value-requires : goal.field_value-requires
field_value-requires c = let h = held _ _ _ _ (sym (rw c.entry-f.ensures at c.in-Value.ensures)) in
    rw c.entry-f.ensures (open_lies _ _ c.args.table.now.accepted _ c.requires h.known h.there)

pub returns-in-NotKnown : goal.returns-in-NotKnown
unfolding since on_whole
returns-in-NotKnown c = given_case _ _ (Field _) (rw c.entry-f.ensures at c.in-NotKnown.ensures)

pub returns-in-Absent : goal.returns-in-Absent
unfolding since on_whole
returns-in-Absent c = given_case _ _ (Field _) (rw c.entry-f.ensures at c.in-Absent.ensures)

pub returns-in-Value : goal.returns-in-Value
unfolding since on_whole value_of
returns-in-Value c = ap (λ (x : ℤ). value (integer x)) (to_z-of_z {w = w64} (search rules) ∙ (c.field_value.ensures ∙ rw c.entry-f.ensures))
    ∙ given_case _ _ (Field _) (rw c.entry-f.ensures at c.in-Value.ensures)

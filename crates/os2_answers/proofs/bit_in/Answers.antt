-- Each arm is the case that `case_of` finds; a bit's field that is known and there lies within an accepted table.
use mathlib.Core.Path.{◌≡◌, sym, ap, ◌∙◌}
use lib.IntN.{ℤ, pos}
use mir.Facts.{to_z-of_z}
use mir.Syntax.{w64}
use Rattle.os2_acceptance.proofs.Accepting.{open_two}
use Rattle.os2_questions.specs.declared.Case.{Case}
use Rattle.os2_questions.proofs.Cases.{held}
use Rattle.os2_answers.specs.Values.{Value, value, integer}
use Rattle.os2_answers.specs.Asking.{said_case}
use borrow.Author.Rules.{rules}
use Rattle.os2_answers.proofs.bit_in.Goals as goal

-- the answer in it
told : (v : Value) {c d : Case} → c ≡ d → said_case c v ≡ said_case d v
told v e = ap (λ (x : Case). said_case x v) e

pub case_of-requires : goal.case_of-requires
case_of-requires c = open_two _ _ c.args.table.now.accepted

pub number-number-requires : goal.number-number-requires
number-number-requires c = let h = held _ _ _ _ (sym c.in-Value.ensures) in
    c.requires.lies h.known h.there

pub returns-in-NotKnown : goal.returns-in-NotKnown
returns-in-NotKnown c = told _ c.in-NotKnown.ensures

pub returns-in-Absent : goal.returns-in-Absent
returns-in-Absent c = told _ c.in-Absent.ensures

pub returns-in-Value : goal.returns-in-Value
returns-in-Value c = ap (λ (x : ℤ). value (integer x))
    (to_z-of_z {w = w64} (search rules) ∙ (c.from.ensures ∙ ap pos (c.bit_of.ensures ∙ rw c.number-number.ensures)))
    ∙ told _ c.in-Value.ensures

-- Each return is the definition at its case.
use mathlib.Core.Path.{sym, ap}
use Rattle.face.specs.Reading.{unfit}
use Rattle.chooser.specs.Racks.{slot_of}
use Rattle.chooser.specs.Calls.{slot_left}
use Rattle.chooser.proofs.Steps.{emptying_54, emptying_55, emptying_done}
use Rattle.chooser.proofs.clear.Goals as goal

pub returns-then-is_none-clause-answer : goal.returns-then-is_none-clause-answer
returns-then-is_none-clause-answer c = sym (emptying_54 _ _ (sym c.if-is_none.ensures))

pub returns-then-is_none-clause-slot : goal.returns-then-is_none-clause-slot
returns-then-is_none-clause-slot c = ap (slot_left (slot_of c.args.there)) (sym (emptying_54 _ _ (sym c.if-is_none.ensures)))

pub returns-then-is_taken-clause-answer : goal.returns-then-is_taken-clause-answer
returns-then-is_taken-clause-answer c = sym (emptying_done _ _ (sym c.if-is_none.ensures) (sym c.if-is_taken.ensures))

pub returns-then-is_taken-clause-slot : goal.returns-then-is_taken-clause-slot
unfolding slot_of unfit
returns-then-is_taken-clause-slot c = ap (slot_left (slot_of c.args.there)) (sym (emptying_done _ _ (sym c.if-is_none.ensures) (sym c.if-is_taken.ensures)))

pub returns-clause-answer : goal.returns-clause-answer
returns-clause-answer c = sym (emptying_55 _ _ (sym c.if-is_none.ensures) (sym c.if-is_taken.ensures))

pub returns-clause-slot : goal.returns-clause-slot
returns-clause-slot c = ap (slot_left (slot_of c.args.there)) (sym (emptying_55 _ _ (sym c.if-is_none.ensures) (sym c.if-is_taken.ensures)))

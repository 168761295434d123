-- Each arm is the question's own range and refusal.
use mathlib.Core.Logic.{⊎_elim}
use Rattle.os2_questions.specs.Questions.{own_refusal}
use Rattle.os2_questions.proofs.in_range.Goals as goal

pub returns-in-Field : goal.returns-in-Field
unfolding own_refusal
returns-in-Field c = rw c.in-Field.is c.at_most.ensures

pub returns-in-SelectionBit : goal.returns-in-SelectionBit
unfolding own_refusal
returns-in-SelectionBit c = rw c.in-SelectionBit.is c.at_most-in-SelectionBit.ensures

pub returns-in-UnicodeBit : goal.returns-in-UnicodeBit
unfolding own_refusal
returns-in-UnicodeBit c = rw c.in-UnicodeBit.is c.at_most-in-UnicodeBit.ensures

pub returns-in-CodePageBit : goal.returns-in-CodePageBit
unfolding own_refusal
returns-in-CodePageBit c = rw c.in-CodePageBit.is c.at_most-in-CodePageBit.ensures

pub returns-in-Rights : goal.returns-in-Rights
unfolding own_refusal
returns-in-Rights c = ⊎_elim (λ e. rw e) (λ o. ⊎_elim (λ e. rw e) (λ e. rw e) o) c.in-Rights.is

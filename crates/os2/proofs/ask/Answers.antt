-- Each arm is the contract of the function that it calls, at that question.
use mathlib.Core.Path.{ap}
use Rattle.outcomes.specs.Outcomes.{Outcome}
use Rattle.os2_answers.specs.Values.{Said}
use Rattle.os2.specs.Replies.{of_number, of_rights, of_style, of_optical}
use Rattle.os2.proofs.ask.Goals as goal

pub returns-in-Field : goal.returns-in-Field
returns-in-Field c = rw c.in-Field.is (ap (λ (o : Outcome Said). (of_number, o)) c.field.ensures)

pub returns-in-SelectionBit : goal.returns-in-SelectionBit
returns-in-SelectionBit c = rw c.in-SelectionBit.is (ap (λ (o : Outcome Said). (of_number, o)) c.selection_bit.ensures)

pub returns-in-UnicodeBit : goal.returns-in-UnicodeBit
returns-in-UnicodeBit c = rw c.in-UnicodeBit.is (ap (λ (o : Outcome Said). (of_number, o)) c.unicode_bit.ensures)

pub returns-in-CodePageBit : goal.returns-in-CodePageBit
returns-in-CodePageBit c = rw c.in-CodePageBit.is (ap (λ (o : Outcome Said). (of_number, o)) c.code_page_bit.ensures)

pub returns-in-Rights : goal.returns-in-Rights
returns-in-Rights c = rw c.in-Rights.is (ap (λ (o : Outcome Said). (of_rights, o)) c.rights.ensures)

pub returns-in-StylePosition : goal.returns-in-StylePosition
returns-in-StylePosition c = rw c.in-StylePosition.is (ap (λ (o : Outcome Said). (of_style, o)) c.style_position.ensures)

pub returns-in-OpticalSizes : goal.returns-in-OpticalSizes
returns-in-OpticalSizes c = rw c.in-OpticalSizes.is (ap (λ (o : Outcome Said). (of_optical, o)) c.optical_sizes.ensures)

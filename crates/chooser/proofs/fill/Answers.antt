-- What is read decides: a face is done, and an error is the answer.
use mathlib.Core.Path.{◌∙◌, ap}
use mathlib.Core.Bool.{Bool}
use Rattle.outcomes.specs.Outcomes.{unless}
use Rattle.face.specs.Reading.{face_in}
use Rattle.chooser.specs.Calls.{before_tables, done_of}
use Rattle.chooser.proofs.fill.Goals as goal

pub returns-in-Ok-clause-answer : goal.returns-in-Ok-clause-answer
unfolding done_of
returns-in-Ok-clause-answer c =
    let a = c.args in
    ap done_of (c.in-Ok.ensures.0 ∙ ap (λ (t : Bool). unless (before_tables t a.slot a.level) (face_in a.level a.os2.now a.name.now)) c.is_taken.ensures)

pub returns-in-Err-clause-answer : goal.returns-in-Err-clause-answer
unfolding done_of
returns-in-Err-clause-answer c =
    let a = c.args in
    ap done_of (c.in-Err.ensures.0 ∙ ap (λ (t : Bool). unless (before_tables t a.slot a.level) (face_in a.level a.os2.now a.name.now)) c.is_taken.ensures)

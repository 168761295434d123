-- Each arm is the definition at its case.
use mathlib.Core.Path.{sym, ap, ◌∙◌}
use Rattle.os2_answers.specs.declared.Answer.{Answer}
use Rattle.os2_style.specs.declared.OpticalSizes.{OpticalSizes}
use Rattle.outcomes.specs.Outcomes.{answered}
use Rattle.os2_answers.specs.Replies.{said_optical_answer}
use Rattle.os2.specs.Replies.{said_optical_reply}
use Rattle.refusal_words.specs.Words.{told_words, outcome_refusal}
use Rattle.os2_words.specs.Words.{members_of, optical_words}
use Rattle.os2_words.proofs.optical_words.Goals as goal

pub returns-in-Err : goal.returns-in-Err
unfolding outcome_refusal members_of optical_words
returns-in-Err c = rw (c.in-Err.is, c.new.ensures, c.from-refusal.ensures ∙ ap told_words c.from.ensures)

pub returns-in-Value : goal.returns-in-Value
unfolding outcome_refusal members_of optical_words
returns-in-Value c = c.sizes_words.ensures ∙ ap optical_words
    (sym (ap said_optical_reply c.in-Ok.is ∙ ap (λ (a : Answer OpticalSizes). answered (said_optical_answer a)) c.in-Value.is))

pub returns-in-Absent : goal.returns-in-Absent
unfolding outcome_refusal members_of optical_words
returns-in-Absent c = rw (c.in-Ok.is, c.in-Absent.is, c.new-in-Absent.ensures)

pub returns-in-NotKnown : goal.returns-in-NotKnown
unfolding outcome_refusal members_of optical_words
returns-in-NotKnown c = rw (c.in-Ok.is, c.in-NotKnown.is, c.new-in-NotKnown.ensures)

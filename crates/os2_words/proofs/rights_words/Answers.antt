-- Each arm is the definition at its case.
use mathlib.Core.Path.{ap, ◌∙◌}
use Rattle.refusal_words.specs.Words.{told_words, outcome_refusal}
use Rattle.os2_words.specs.Words.{members_of, rights_words}
use Rattle.os2_words.proofs.rights_words.Goals as goal

pub returns-in-Err : goal.returns-in-Err
unfolding outcome_refusal members_of rights_words
returns-in-Err c = rw (c.in-Err.is, c.new.ensures, c.from-in-Err.ensures ∙ ap told_words c.from.ensures)

pub returns-in-Value : goal.returns-in-Value
unfolding outcome_refusal members_of rights_words
returns-in-Value c = rw (c.in-Ok.is, c.in-Value.is, c.new-in-Value.ensures, c.number.ensures)

pub returns-in-Absent : goal.returns-in-Absent
unfolding outcome_refusal members_of rights_words
returns-in-Absent c = rw (c.in-Ok.is, c.in-Absent.is, c.new-in-Absent.ensures)

pub returns-in-NotKnown : goal.returns-in-NotKnown
unfolding outcome_refusal members_of rights_words
returns-in-NotKnown c = rw (c.in-Ok.is, c.in-NotKnown.is, c.new-in-NotKnown.ensures)

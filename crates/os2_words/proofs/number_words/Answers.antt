-- Each arm is the definition at its case.
use mathlib.Core.Path.{ap, ◌∙◌}
use lib.IntN.{ℤ}
use mir.Facts.{to_z-of_z}
use mir.Syntax.{w64}
use Rattle.refusal_words.specs.Words.{told_words, no_refusal, outcome_refusal}
use Rattle.os2_words.specs.Words.{members_of, number_words}
use borrow.Author.Rules.{rules}
use Rattle.os2_words.proofs.number_words.Goals as goal

pub returns-in-Err : goal.returns-in-Err
unfolding outcome_refusal members_of number_words
returns-in-Err c = rw (c.in-Err.is, c.new.ensures, c.from-in-Err.ensures ∙ ap told_words c.from.ensures)

pub returns-in-Value : goal.returns-in-Value
unfolding outcome_refusal members_of number_words
returns-in-Value c = rw (c.in-Ok.is, c.in-Value.is, c.new-in-Value.ensures)
    (ap (λ (x : ℤ). record { refusal = no_refusal; kind = 1; value = x }) (to_z-of_z {w = w64} (search rules)))

pub returns-in-Absent : goal.returns-in-Absent
unfolding outcome_refusal members_of number_words
returns-in-Absent c = rw (c.in-Ok.is, c.in-Absent.is, c.new-in-Absent.ensures)

pub returns-in-NotKnown : goal.returns-in-NotKnown
unfolding outcome_refusal members_of number_words
returns-in-NotKnown c = rw (c.in-Ok.is, c.in-NotKnown.is, c.new-in-NotKnown.ensures)

-- Each arm is the definition at its case.
use Rattle.std.proofs.Common.{ap, ◌∙◌}
use Rattle.refusal_words.specs.Words.{told_words}
use Rattle.name_words.specs.Words.{text_words}
use Rattle.name_words.proofs.named_words.Goals as goal

pub returns-in-Ok : goal.returns-in-Ok
unfolding text_words
returns-in-Ok c = rw (c.in-Ok.is, c.new.ensures)

pub returns-in-Err : goal.returns-in-Err
unfolding text_words
returns-in-Err c = rw (c.in-Err.is, c.new-in-Err.ensures, c.from-in-Err.ensures ∙ ap told_words c.from.ensures)

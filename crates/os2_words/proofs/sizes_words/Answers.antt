-- Each arm is the definition at its case.
use Rattle.refusal_words.specs.Words.{outcome_refusal}
use Rattle.os2_words.specs.Words.{members_of, optical_words}
use Rattle.os2_words.proofs.sizes_words.Goals as goal

pub returns-in-Every : goal.returns-in-Every
unfolding outcome_refusal members_of optical_words
returns-in-Every c = rw (c.in-Every.is, c.new.ensures)

pub returns-in-Upwards : goal.returns-in-Upwards
unfolding outcome_refusal members_of optical_words
returns-in-Upwards c = rw (c.in-Upwards.is, c.new-in-Upwards.ensures)

pub returns-in-Between : goal.returns-in-Between
unfolding outcome_refusal members_of optical_words
returns-in-Between c = rw (c.in-Between.is, c.new-in-Between.ensures)

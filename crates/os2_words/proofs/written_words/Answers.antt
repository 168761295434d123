-- Each arm is the definition at its case.
use Rattle.os2_words.specs.Words.{written_words}
use Rattle.os2_words.proofs.written_words.Goals as goal

pub returns-in-Ok-clause-written : goal.returns-in-Ok-clause-written
unfolding written_words
returns-in-Ok-clause-written g c = rw c.in-Ok.is c.new.ensures

pub returns-in-Err-clause-refused : goal.returns-in-Err-clause-refused
unfolding written_words
returns-in-Err-clause-refused g c = rw c.in-Err.is (c.into.result, c.into.ensures, rw (c.new-in-Err.ensures, c.from.ensures))

-- Each arm is the definition at its case.
use Rattle.compare_words.specs.Words.{compared_words}
use Rattle.compare_words.proofs.compared_words.Goals as goal

pub returns-in-Ok-clause-listed : goal.returns-in-Ok-clause-listed
unfolding compared_words
returns-in-Ok-clause-listed g c = rw c.in-Ok.is c.new.ensures

pub returns-in-Err-clause-refused : goal.returns-in-Err-clause-refused
returns-in-Err-clause-refused g c = rw c.in-Err.is (c.into.result, c.into.ensures, c.blamed_words.ensures)

-- The words of the refusal and of the side.
use Rattle.compare_words.specs.Words.{compared_words}
use Rattle.compare_words.proofs.blamed_words.Goals as goal

pub returns : goal.returns
unfolding compared_words
returns c = rw (c.new.ensures, c.from.ensures, c.side_number.ensures)

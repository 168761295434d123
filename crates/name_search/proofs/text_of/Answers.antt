-- Start and length are of the numbers that were read.
use Rattle.name_search.specs.Searches.{text_of}
use Rattle.name_search.proofs.text_of.Goals as goal

pub returns : goal.returns
unfolding text_of
returns c = rw (← c.text_at-at.ensures, ← c.string_start.ensures, ← c.string_length.ensures)

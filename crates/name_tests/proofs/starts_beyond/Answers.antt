-- The test is the definition's, of the number that was read.
use Rattle.name_tests.specs.Tests.{starts_beyond}
use Rattle.name_tests.proofs.starts_beyond.Goals as goal

pub returns : goal.returns
unfolding starts_beyond
returns c = rw (← c.string_start.ensures)

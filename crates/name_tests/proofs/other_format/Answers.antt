-- The test is the definition's, of the number that was read.
use Rattle.name_tests.specs.Tests.{in_other_format}
use Rattle.name_tests.proofs.other_format.Goals as goal

pub returns : goal.returns
unfolding in_other_format
returns c = rw (← c.format_number.ensures)

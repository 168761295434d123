-- The test is the definition's, of the number that was read.
use Rattle.name_tests.specs.Tests.{records_pass_end}
use Rattle.name_tests.proofs.records_pass.Goals as goal

pub returns : goal.returns
unfolding records_pass_end
returns c = rw (← c.records_end.ensures)

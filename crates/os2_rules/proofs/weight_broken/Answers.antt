-- The tests are those of the definition.
use Rattle.os2_rules.specs.Tests.{weight_broken}
use Rattle.os2_rules.proofs.Laws.{decided}
use Rattle.os2_rules.proofs.weight_broken.Goals as goal

pub returns-then-weight-lt1 : goal.returns-then-weight-lt1
unfolding weight_broken
returns-then-weight-lt1 c = search decided

pub returns-else-weight-lt1 : goal.returns-else-weight-lt1
unfolding weight_broken
returns-else-weight-lt1 c = search decided

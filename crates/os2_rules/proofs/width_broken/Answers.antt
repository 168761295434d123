-- The tests that led to a return decide the definition's.
use Rattle.os2_rules.specs.Tests.{width_broken}
use Rattle.os2_rules.proofs.Laws.{decided}
use Rattle.os2_rules.proofs.width_broken.Goals as goal

pub returns-then-width-lt1 : goal.returns-then-width-lt1
unfolding width_broken
returns-then-width-lt1 c = search decided

pub returns-else-width-lt1 : goal.returns-else-width-lt1
unfolding width_broken
returns-else-width-lt1 c = search decided

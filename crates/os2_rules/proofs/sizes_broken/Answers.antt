-- The tests that led to a return decide the definition's.
use Rattle.os2_rules.specs.Tests.{sizes_broken}
use Rattle.os2_rules.proofs.Laws.{decided}
use Rattle.os2_rules.proofs.sizes_broken.Goals as goal

pub returns-then-version-eq5 : goal.returns-then-version-eq5
unfolding sizes_broken
returns-then-version-eq5 c = search decided

pub returns-else-version-eq5 : goal.returns-else-version-eq5
unfolding sizes_broken
returns-else-version-eq5 c = search decided

-- The tests that led to a return decide the definition's.
use Rattle.os2_rules.specs.Tests.{rights_broken}
use Rattle.os2_rules.specs.Bits.{bit}
use Rattle.os2_rules.proofs.Laws.{decided}
use Rattle.os2_rules.proofs.rights_broken.Goals as goal

pub returns-then-version-ge3 : goal.returns-then-version-ge3
unfolding rights_broken bit
returns-then-version-ge3 c = search decided

pub returns-else-version-ge3 : goal.returns-else-version-ge3
unfolding rights_broken bit
returns-else-version-ge3 c = search decided

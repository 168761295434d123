-- The tests that led to a return decide the definition's.
use Rattle.os2_rules.specs.Tests.{type_broken}
use Rattle.os2_rules.specs.Bits.{bits}
use Rattle.os2_rules.proofs.Laws.{decided}
use Rattle.os2_rules.proofs.type_broken.Goals as goal

pub returns-then-fstype-gt0 : goal.returns-then-fstype-gt0
unfolding type_broken bits
returns-then-fstype-gt0 c = search decided

pub returns-then-fstype-gt0-2 : goal.returns-then-fstype-gt0-2
unfolding type_broken bits
returns-then-fstype-gt0-2 c = search decided

pub returns-else-fstype-gt0-2 : goal.returns-else-fstype-gt0-2
unfolding type_broken bits
returns-else-fstype-gt0-2 c = search decided

-- The tests that led to a return decide the definition's.
use Rattle.os2_rules.specs.Tests.{regular_broken}
use Rattle.os2_rules.specs.Bits.{bits}
use Rattle.os2_rules.proofs.Laws.{decided}
use Rattle.os2_rules.proofs.regular_broken.Goals as goal

pub returns-then-fsselection-gt0-2 : goal.returns-then-fsselection-gt0-2
unfolding regular_broken bits
returns-then-fsselection-gt0-2 c = search decided

pub returns-else-fsselection-gt0-2 : goal.returns-else-fsselection-gt0-2
unfolding regular_broken bits
returns-else-fsselection-gt0-2 c = search decided

pub returns : goal.returns
unfolding regular_broken bits
returns c = search decided

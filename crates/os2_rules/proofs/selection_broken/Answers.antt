-- The tests that led to a return decide the definition's.
use Rattle.os2_rules.specs.Tests.{selection_broken}
use Rattle.os2_rules.specs.Bits.{bits}
use Rattle.os2_rules.proofs.Laws.{decided}
use Rattle.os2_rules.proofs.selection_broken.Goals as goal

pub returns-then-fsselection-gt0 : goal.returns-then-fsselection-gt0
unfolding selection_broken bits
returns-then-fsselection-gt0 c = search decided

pub returns-then-version-lt4 : goal.returns-then-version-lt4
unfolding selection_broken bits
returns-then-version-lt4 c = search decided

pub returns-else-version-lt4 : goal.returns-else-version-lt4
unfolding selection_broken bits
returns-else-version-lt4 c = search decided

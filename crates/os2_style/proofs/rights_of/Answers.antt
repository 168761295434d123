-- The tests that led to a return decide the definition's.
use Rattle.os2_rules.specs.Bits.{bit}
use Rattle.os2_style.specs.Style.{rights_of}
use Rattle.os2_style.proofs.Laws.{decided}
use Rattle.os2_style.proofs.rights_of.Goals as goal

pub returns-then-fstype-gt0 : goal.returns-then-fstype-gt0
unfolding rights_of bit
returns-then-fstype-gt0 c = search decided

pub returns-then-fstype-gt0-2 : goal.returns-then-fstype-gt0-2
unfolding rights_of bit
returns-then-fstype-gt0-2 c = search decided

pub returns-then-fstype-gt0-3 : goal.returns-then-fstype-gt0-3
unfolding rights_of bit
returns-then-fstype-gt0-3 c = search decided

pub returns : goal.returns
unfolding rights_of bit
returns c = search decided

-- Each branch decides the definition's own tests.
use Rattle.name_tests.specs.Tests.{forbidden}
use Rattle.name_tests.proofs.Tests.{decided}
use Rattle.name_tests.proofs.forbidden.Goals as goal

pub returns-then-language-lt32768 : goal.returns-then-language-lt32768
unfolding forbidden
returns-then-language-lt32768 c = search decided

pub returns-then-platform-lt240 : goal.returns-then-platform-lt240
unfolding forbidden
returns-then-platform-lt240 c = search decided

pub returns-else-platform-lt240 : goal.returns-else-platform-lt240
unfolding forbidden
returns-else-platform-lt240 c = search decided

pub returns : goal.returns
unfolding forbidden
returns c = search decided

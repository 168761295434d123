-- Each way decides the tests of the definition.
use Rattle.name_tests.proofs.Tests.{decided}
use Rattle.name_answers.specs.Forms.{too_few, is_too_many, wrong_count}
use Rattle.name_answers.proofs.wrong_count.Goals as goal

pub returns-then-n-lt1 : goal.returns-then-n-lt1
unfolding wrong_count too_few is_too_many
returns-then-n-lt1 c = search decided

pub returns-else-n-lt1 : goal.returns-else-n-lt1
unfolding wrong_count too_few is_too_many
returns-else-n-lt1 c = search decided

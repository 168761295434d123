-- The test is that of the definition.
use borrow.Author.Tests.{lt-ltb, le-ltb}
use Rattle.outcomes.specs.Firsts.{when}
use Rattle.os2_questions.proofs.at_most.Goals as goal

pub returns-then-largest-number : goal.returns-then-largest-number
unfolding when
returns-then-largest-number c = rw (lt-ltb _ _ c.if-largest-number.true)

pub returns : goal.returns
unfolding when
returns c = rw (le-ltb _ _ c.if-largest-number.false)

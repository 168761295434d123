-- Both tests are the definition's, of the numbers that were read.
use borrow.Author.Tests.{lt-ltb, le-ltb}
use Rattle.name_tests.specs.Tests.{misplaced}
use Rattle.name_tests.proofs.storage_misplaced.Goals as goal

pub returns-then-start-tags_end : goal.returns-then-start-tags_end
unfolding misplaced
returns-then-start-tags_end c = simp (← c.storage_start-start.ensures, ← c.tags_end.ensures, lt-ltb _ _ c.if-start-tags_end.true)

pub returns-else-start-tags_end : goal.returns-else-start-tags_end
unfolding misplaced
returns-else-start-tags_end c = simp (← c.storage_start-start.ensures, ← c.tags_end.ensures, le-ltb _ _ c.if-start-tags_end.false)

-- The two returns are the two cases of the definition.
use Rattle.os2_questions.specs.Questions.{since}
use Rattle.os2_questions.proofs.Cases.{decided}
use Rattle.os2_questions.proofs.selection_since.Goals as goal

pub returns-then-n-lt7 : goal.returns-then-n-lt7
unfolding since
returns-then-n-lt7 c = search decided

pub returns-else-n-lt7 : goal.returns-else-n-lt7
unfolding since
returns-else-n-lt7 c = search decided

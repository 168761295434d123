-- The test is the definition.
use mathlib.Core.Path.{refl}
use Rattle.os2_questions.specs.Cases.{above}
use Rattle.os2_questions.proofs.above.Goals as goal

pub returns : goal.returns
unfolding above
returns c = refl

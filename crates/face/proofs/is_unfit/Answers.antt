-- The test is the definition.
use mathlib.Core.Path.{refl}
use Rattle.face.specs.Reading.{unfit}
use Rattle.face.proofs.is_unfit.Goals as goal

pub returns : goal.returns
unfolding unfit
returns c = refl

-- The test is the definition's.
use mathlib.Core.Path.{refl}
use Rattle.name_tests.specs.Tests.{is_too_short}
use Rattle.name_tests.proofs.too_short.Goals as goal

pub returns : goal.returns
unfolding is_too_short
returns c = refl

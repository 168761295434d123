-- The test is the definition's.
use mathlib.Core.Path.{refl}
use Rattle.comparing.specs.Rooms.{is_too_many}
use Rattle.comparing.proofs.too_many.Goals as goal

pub returns : goal.returns
unfolding is_too_many
returns c = refl

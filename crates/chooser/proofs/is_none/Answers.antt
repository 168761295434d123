-- The test is the definition.
use mathlib.Core.Path.{refl}
use Rattle.chooser.specs.Calls.{no_such_slot}
use Rattle.chooser.proofs.is_none.Goals as goal

pub returns : goal.returns
unfolding no_such_slot
returns c = refl

-- Each of the 32 is an empty slot.
use mathlib.Core.Path.{refl}
use lib.ListN.{replicate}
use Rattle.face.specs.Reading.{unfit}
use Rattle.chooser.specs.Racks.{slot_of}
use Rattle.chooser.proofs.Slots.{held_nobody}
use Rattle.chooser.proofs.empty.Goals as goal

pub returns : goal.returns
unfolding slot_of unfit
returns c = held_nobody _ (record { weight = 0; width = 0; sloped = 0; length = 0; family = replicate 64 0 }) refl refl

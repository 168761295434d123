-- The text is copied to the front of the slot, and has as many bytes as the slot says.
use mathlib.Core.Path.{refl}
use Rattle.chooser.proofs.Slots.{kept_is}
use Rattle.chooser.proofs.kept.Goals as goal

pub returns : goal.returns
returns c = kept_is _ _ c.args.face c.requires c.front.ensures refl refl refl c.from.ensures

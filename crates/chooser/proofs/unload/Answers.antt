-- The slot at its place is written back: emptied, or as it was.
-- the rack has 32 slots, as its type says
use borrow.Author.Rules.{rules}
use mathlib.Core.Path.{refl}
use Rattle.chooser.specs.Racks.{held}
use Rattle.chooser.proofs.Steps.{unload_is, unloaded}
use Rattle.chooser.proofs.unload.Goals as goal

pub returns : goal.returns
unfolding held
returns c = (
  unload_is c.args.rack _ _ c.place-at.ensures refl c.clear-answer.ensures.answer,
  unloaded c.args.rack _ _ c.place-at.ensures (search rules) _ c.clear-answer.ensures.slot,
)

-- The slot at its place is written back: filled, or as it was.
-- the rack has 32 slots, as its type says
use borrow.Author.Rules.{rules}
use mathlib.Core.Path.{◌∙◌, ap}
use Rattle.chooser.specs.Racks.{held}
use Rattle.chooser.specs.Calls.{done_of}
use Rattle.chooser.proofs.Steps.{found, loaded}
use Rattle.chooser.proofs.load.Goals as goal

pub returns : goal.returns
unfolding held
returns c = (
  c.fill-answer.ensures.answer ∙ ap done_of (found c.args.rack _ _ c.place-at.ensures _ _ _),
  loaded c.args.rack _ _ c.place-at.ensures (search rules) _ _ _ _ c.fill-answer.ensures.slot,
)

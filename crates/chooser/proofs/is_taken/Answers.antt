-- A slot holds a face unless its length is unfit.
use mathlib.Core.Path.{◌∙◌, ap}
use mathlib.Core.Bool.{not}
use Rattle.face.specs.Reading.{unfit}
use Rattle.chooser.proofs.Slots.{taken_is}
use Rattle.chooser.proofs.is_taken.Goals as goal

pub returns : goal.returns
returns c = ap not (c.is_unfit.ensures ∙ ap unfit c.from.ensures) ∙ taken_is _

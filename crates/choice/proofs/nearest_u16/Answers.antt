use mathlib.Core.Path.{◌∙◌}
use Rattle.choice.proofs.Words.{within_said}
use Rattle.choice.proofs.nearest_u16.Goals as goal

pub returns : goal.returns
returns c = c.min.ensures ∙ within_said _

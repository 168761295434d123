use mathlib.Core.Path.{◌∙◌}
use Rattle.same_bytes.proofs.Strings.{pairs_same}
use Rattle.same_bytes.proofs.same.Goals as goal

pub returns : goal.returns
returns c = c.eq.ensures ∙ pairs_same _ _

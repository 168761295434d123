-- By the number's sign.
use mathlib.Core.Path.{◌∙◌}
use Rattle.os2_store.proofs.Signs.{kept}
use Rattle.os2_writer.proofs.Signs.{version_under, version_above}
use Rattle.os2_writer.proofs.no_version.Goals as goal

pub returns-then-x-lt0 : goal.returns-then-x-lt0
returns-then-x-lt0 c = c.if-x-lt0.true ∙ version_under _ (rw (kept _ c.ranges.x) at c.if-x-lt0.true)

pub returns-else-x-lt0 : goal.returns-else-x-lt0
returns-else-x-lt0 c = rw (kept _ c.ranges.x) (version_above _ (rw (kept _ c.ranges.x) at c.if-x-lt0.false))

-- The smaller of two numbers is the one that the test finds so.
use mathlib.Core.Path.{sym, ap, ◌∙◌}
use native.Mathlib.Nat.{min-eq_left, min-eq_right}
use Rattle.level.specs.Sizes.{table_size}
use native.Mathlib.Omega.{arith}
use Rattle.os2_acceptance.proofs.size_read.Goals as goal

pub returns-then-version-number : goal.returns-then-version-number
returns-then-version-number c = c.version_size.ensures ∙ ap table_size (sym (min-eq_left (omega (arith, c.number.ensures))))

pub returns-else-version-number : goal.returns-else-version-number
returns-else-version-number c = c.table_size.ensures ∙ ap table_size (sym (min-eq_right (omega (arith, c.number.ensures))))

-- The literal 20.0 is the conversion of 20.
use mathlib.Core.Path.{refl}
use lib.Ieee.{of_bits, of_int}
use Rattle.os2_style.specs.Style.{points}
use Rattle.os2_style.proofs.in_points.Goals as goal

pub returns : goal.returns
unfolding points of_bits of_int
returns c = refl

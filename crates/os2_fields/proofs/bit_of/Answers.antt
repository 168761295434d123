-- A shift is a division by a power of two.
use mathlib.Core.Path.{refl}
use Rattle.os2_rules.specs.Bits.{bit}
use Rattle.os2_fields.proofs.bit_of.Goals as goal

pub returns : goal.returns
unfolding bit
returns c = refl

-- By computing.
-- Assumes nothing.
use mathlib.Core.Path.{refl}
use Rattle.bigendian.specs.Numbers.{number}
use Rattle.os2_fields.specs.Catalogue.{catalogue}
use Rattle.os2_fields.specs.Fields.{raw_in, signed_of, value_in}
use Rattle.os2_fields.specs.Examples.{ReadsEach}

pub reads_each : ReadsEach
unfolding catalogue value_in raw_in signed_of number
reads_each = refl

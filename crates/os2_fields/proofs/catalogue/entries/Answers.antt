-- The table in the code is the list of the definition.
use mathlib.Core.Path.{refl}
use Rattle.os2_fields.specs.Catalogue.{catalogue}
use Rattle.os2_fields.proofs.catalogue.entries.Goals as goal

pub returns : goal.returns
unfolding catalogue
returns c = refl

-- The entry of the table is that of the list which the table is.
use Rattle.os2_fields.specs.Catalogue.{field_of}
use Rattle.os2_fields.proofs.catalogue.entry.Goals as goal

pub returns : goal.returns
unfolding field_of
returns c = rw c.entries-fields.ensures

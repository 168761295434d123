-- The entry is that of field 0.
use Rattle.os2_fields.specs.Catalogue.{catalogue, field_of}
use Rattle.os2_fields.proofs.Tiling.{version_word}
use Rattle.os2_fields.proofs.version.Goals as goal

pub word-requires : goal.word-requires
unfolding field_of catalogue
word-requires c = version_word _ c.requires

pub returns : goal.returns
unfolding field_of catalogue
returns c = c.word.ensures

-- Each value is the contract of the read that gives it.
use mathlib.Core.Path.{refl}
use Prim.Native.Nat.{zero-le}
use native.Mathlib.Omega.{arith}
use Rattle.level.specs.Sizes.{table_size}
use Rattle.level.proofs.Laws.{size_least}
use Rattle.os2_fields.specs.Catalogue.{catalogue, field_of}
use Rattle.os2_fields.specs.Fields.{values_of}
use Rattle.os2_fields.specs.Fields as fields
use Rattle.os2_fields.proofs.Tiling.{word}
use Rattle.os2_fields.proofs.values.Goals as goal

pub version-requires : goal.version-requires
version-requires c = omega (arith, size_least (fields.version c.args.table.now), c.requires)

pub word-requires : goal.word-requires
unfolding field_of catalogue
word-requires c = word _ 2 (fields.version c.args.table.now) (omega arith) refl zero-le c.requires

pub word-requires-2 : goal.word-requires-2
unfolding field_of catalogue
word-requires-2 c = word _ 3 (fields.version c.args.table.now) (omega arith) refl zero-le c.requires

pub word-requires-3 : goal.word-requires-3
unfolding field_of catalogue
word-requires-3 c = word _ 4 (fields.version c.args.table.now) (omega arith) refl zero-le c.requires

pub word-requires-4 : goal.word-requires-4
unfolding field_of catalogue
word-requires-4 c = word _ 31 (fields.version c.args.table.now) (omega arith) refl zero-le c.requires

pub optical_size-requires : goal.optical_size-requires
unfolding field_of catalogue table_size
optical_size-requires c = record { came = refl; sized = c.requires; inside = omega arith; two = refl }

pub optical_size-requires-2 : goal.optical_size-requires-2
unfolding field_of catalogue table_size
optical_size-requires-2 c = record { came = refl; sized = c.requires; inside = omega arith; two = refl }

pub returns : goal.returns
unfolding values_of field_of catalogue
returns c = rw (
  c.optical_size-2.ensures,
  c.optical_size.ensures,
  c.word-4.ensures,
  c.word-3.ensures,
  c.word-2.ensures,
  c.word.ensures,
  c.version.ensures,
)

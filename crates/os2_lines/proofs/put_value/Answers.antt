-- The text is that of the line's question, from the fields that a table of which the value is given has.
use Rattle.std.proofs.Common.{refl, arith}
use Rattle.os2_fields.specs.Catalogue.{catalogue, field_of}
use Rattle.os2_lines.proofs.Laws.{field_lies, old_word, sizes_word, style_width}
use Rattle.os2_lines.proofs.put_value.Goals as goal

pub value-requires : goal.value-requires
value-requires c = rw c.entry.ensures (field_lies c.requires.1 _ c.in-Field.is)

pub word-requires : goal.word-requires
unfolding field_of catalogue
word-requires c = old_word c.requires.1 4 (omega arith) refl refl

pub word-weight-requires : goal.word-weight-requires
unfolding field_of catalogue
word-weight-requires c = old_word c.requires.1 2 (omega arith) refl refl

pub word-requires-in-StylePosition : goal.word-requires-in-StylePosition
unfolding field_of catalogue
word-requires-in-StylePosition c = old_word c.requires.1 3 (omega arith) refl refl

pub put_position-requires : goal.put_position-requires
unfolding field_of catalogue
put_position-requires c = (omega arith, (omega arith, rw c.word-in-StylePosition.ensures (style_width c.requires.1 c.in-StylePosition.is)))

pub word-lower-requires : goal.word-lower-requires
unfolding field_of catalogue
word-lower-requires c = sizes_word c.requires.1 c.in-OpticalSizes.is 46 (omega arith) refl refl

pub word-requires-in-OpticalSizes : goal.word-requires-in-OpticalSizes
unfolding field_of catalogue
word-requires-in-OpticalSizes c = sizes_word c.requires.1 c.in-OpticalSizes.is 47 (omega arith) refl refl

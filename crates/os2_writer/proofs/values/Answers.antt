-- Each value is the contract of the read that gives it.
use mathlib.Core.Path.{refl}
use Prim.Native.Nat.{zero-le}
use native.Mathlib.Omega.{arith}
use Rattle.os2_fields.specs.Catalogue.{catalogue, field_of}
use Rattle.os2_fields.specs.Fields.{values_of}
use Rattle.os2_writer.proofs.Steps.{word_for}
use Rattle.os2_writer.proofs.values.Goals as goal

pub word-requires : goal.word-requires
unfolding field_of catalogue
word-requires c = word_for _ _ c.requires.0 2 (omega arith) refl refl zero-le

pub word-requires-2 : goal.word-requires-2
unfolding field_of catalogue
word-requires-2 c = word_for _ _ c.requires.0 3 (omega arith) refl refl zero-le

pub word-requires-3 : goal.word-requires-3
unfolding field_of catalogue
word-requires-3 c = word_for _ _ c.requires.0 4 (omega arith) refl refl zero-le

pub word-requires-4 : goal.word-requires-4
unfolding field_of catalogue
word-requires-4 c = word_for _ _ c.requires.0 31 (omega arith) refl refl zero-le

pub optical_size-requires : goal.optical_size-requires
unfolding field_of catalogue
optical_size-requires c = λ h. word_for _ _ c.requires.0 46 (omega arith) refl refl h

pub optical_size-requires-2 : goal.optical_size-requires-2
unfolding field_of catalogue
optical_size-requires-2 c = λ h. word_for _ _ c.requires.0 47 (omega arith) refl refl h

pub returns : goal.returns
unfolding values_of
returns c = rw (c.optical_size-2.ensures, c.optical_size.ensures, c.word-4.ensures, c.word-3.ensures)
    (rw (c.word-2.ensures, c.word.ensures, c.requires.1))

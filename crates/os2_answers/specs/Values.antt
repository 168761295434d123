-- What an answer can be, in document 01's words and numbers.
use Rattle.std.specs.Prelude.{ℕ, List, ℤ, Float}
use Rattle.os2_fields.specs.declared.catalogue.Field.{Field}
use Rattle.os2_fields.specs.Fields.{value_in}
use Rattle.os2_style.specs.Style.{Sizes}

-- a value: of a field, or of a bit, which is 0 or 1; rights by fsType's bit, 0 installable, 1 restricted, 2 preview, 3 editable; a style
-- position's weight and width percent; optical sizes
pub data Value : Type 0 where
  integer : ℤ → Value
  rights : ℕ → Value
  position : Float → Float → Value
  sizes : Sizes → Value

-- "Each answer is one of three things: a value, absent, or not known."
pub data Said : Type 0 where
  value : Value → Said
  absent : Said
  not_known : Said

-- what is answered of a field: the whole number that stands in it
abbrev pub field_value : List ℕ → Field → ℤ
field_value b f = value_in b f

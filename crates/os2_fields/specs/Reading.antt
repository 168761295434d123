-- What the functions that read a field ask of the table and of the field.
use Rattle.std.specs.Prelude.{ℕ, ◌+◌, ◌≤◌, ◌≡◌, ◌⊎◌, true, List, length}
use Rattle.level.specs.Sizes.{table_size}
use Rattle.os2_fields.specs.declared.catalogue.Field.{Field}
use Rattle.os2_fields.specs.Fields.{version}

-- a width of 1, 2 or 4 bytes
abbrev pub Wide : ℕ → Type 0
Wide n = (n ≡ 1) ⊎ ((n ≡ 2) ⊎ (n ≡ 4))

-- a field as the catalogue has them: 1, 2 or 4 bytes, and 2 where it is signed
pub record Sound (f : Field) : Type 0 where
  pub wide : Wide f.width
  pub signs : f.signed ≡ true → f.width ≡ 2

-- such a field lies within the table
pub record Lies (b : List ℕ) (f : Field) : Type 0 where
  pub inside : f.offset + f.width ≤ length b
  pub sound : Sound f

-- a field of two bytes that lies within the table
pub record Word (b : List ℕ) (f : Field) : Type 0 where
  pub lies : Lies b f
  pub two : f.width ≡ 2

-- a field of two bytes that came in with version 5 and lies within its size, and a table that has the size of its version
pub record OpticalField (b : List ℕ) (f : Field) : Type 0 where
  pub came : f.since ≡ 5
  pub sized : table_size (version b) ≤ length b
  pub inside : f.offset + 2 ≤ table_size 5
  pub two : f.width ≡ 2

-- What the functions that test and store one field, or all of them, ask, and what the pass over the fields finds.
use Rattle.std.specs.Prelude.{ℕ, ◌+◌, ◌^◌, ◌<◌, ◌≤◌, ◌≡◌, List, length, ℤ, Option as Maybe, Some, None}
use Rattle.std.proofs.Math.Option.{Option, none, some}
use Rattle.outcomes.specs.Firsts.{first_among}
use Rattle.outcomes.specs.Outcomes.{Refusal, carrying}
use Rattle.level.specs.Levels.{newest}
use Rattle.level.specs.Sizes.{table_size}
use Rattle.os2_fields.specs.declared.catalogue.Field.{Field}
use Rattle.os2_fields.specs.Catalogue.{field_count}
use Rattle.os2_fields.specs.Reading.{Sound}
use Rattle.os2_store.specs.Writing.{misfit_at}

-- a number of a field's width, and room for it
pub record Storable (room : List ℕ) (f : Field) (code : ℕ) : Type 0 where
  pub sound : Sound f
  pub inside : f.offset + f.width ≤ length room
  pub small : code < 256 ^ f.width

-- the numbers of a version that is one fit their fields
pub record Fitting (v : ℕ) (xs : List ℤ) : Type 0 where
  pub full : length xs ≡ field_count
  pub most : v ≤ newest
  pub fitting : first_among (misfit_at v xs) field_count ≡ none

-- and there is room for them
pub record Ready (v : ℕ) (xs : List ℤ) (room : ℕ) : Type 0 where
  pub fit : Fitting v xs
  pub long : table_size v ≤ room

-- refusal 8 with the field that is found
abbrev pub misfit_found : Maybe ℕ → Option Refusal
misfit_found (Some k) = some (carrying 8 k)
misfit_found None = none

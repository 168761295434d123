-- What the inner functions ask: two tables that the level accepts, and a field of the catalogue with such a table.
use Rattle.std.specs.Prelude.{ℕ, ◌<◌, ◌≡◌, List}
use Rattle.std.proofs.Math.Option.{none}
use Rattle.os2_fields.specs.declared.catalogue.Field.{Field}
use Rattle.os2_fields.specs.Catalogue.{field_count, field_of}
use Rattle.os2_acceptance.specs.Acceptance.{judged}

pub record Accepted (L : ℕ) (left right : List ℕ) : Type 0 where
  pub on_left : judged L left ≡ none
  pub on_right : judged L right ≡ none

pub record Entry (L : ℕ) (b : List ℕ) (f : Field) : Type 0 where
  pub accepted : judged L b ≡ none
  pub number : ℕ
  pub inside : number < field_count
  pub is : f ≡ field_of number

-- What the functions that gather the values of the rules ask.
use Rattle.std.specs.Prelude.{ℕ, ◌<◌, ◌≡◌, true, false, List, length, ℤ}
use Rattle.os2_fields.specs.Catalogue.{field_of}
use Rattle.os2_store.specs.Writing.{number_for, fits}

-- the number for field k is one of an unsigned field of two bytes, and fits it
pub record WordFor (xs : List ℤ) (k : ℕ) : Type 0 where
  pub within : k < length xs
  pub plain : (field_of k).signed ≡ false
  pub two : (field_of k).width ≡ 2
  pub fit : fits (field_of k) (number_for xs k) ≡ true

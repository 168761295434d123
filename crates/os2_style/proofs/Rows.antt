-- The examples, and what the enums of the code say, case by case: by computing.
-- Assumes nothing.
use mathlib.Core.Path.{◌≡◌, refl}
use mathlib.Core.List.{[], ◌∷◌, map}
use lib.Ieee.{Float, of_bits, of_int, div}
use Rattle.os2_rules.specs.Bits.{bit}
use Rattle.os2_style.specs.declared.EmbeddingRights.TheVariants.{Installable, Restricted, Preview, Editable}
use Rattle.os2_style.specs.declared.OpticalSizes.TheVariants.{Every, Upwards, Between}
use Rattle.os2_style.specs.Style.{rights_number, rights_of, points, every, upwards, between, said_sizes}
use Rattle.os2_style.specs.Examples.{Rights, Points}

pub some_rights : Rights
unfolding rights_of bit
some_rights = refl

pub some_points : Points
unfolding points of_bits of_int div
some_points = refl

pub rights_numbers : map rights_number (Installable ∷ Restricted ∷ Preview ∷ Editable ∷ []) ≡ 0 ∷ 1 ∷ 2 ∷ 3 ∷ []
rights_numbers = refl

pub sizes_said : (a b : Float) → map said_sizes (Every ∷ Upwards a ∷ Between a b ∷ []) ≡ every ∷ upwards a ∷ between a b ∷ []
sizes_said a b = refl

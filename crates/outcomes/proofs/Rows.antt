-- What the code's refusals carry, written out: by computing.
-- Assumes nothing.
use mathlib.Core.Path.{◌≡◌, refl}
use mathlib.Core.Option.{none, some}
use mathlib.Core.List.{[], ◌∷◌, map}
use Rattle.std.specs.Prelude.{ℕ, None, Some}
use Rattle.outcomes.specs.Outcomes.{option_of}

pub carries : map (option_of {A = ℕ}) (None ∷ Some 0 ∷ Some 1 ∷ Some 65535 ∷ []) ≡ none ∷ some 0 ∷ some 1 ∷ some 65535 ∷ []
carries = refl

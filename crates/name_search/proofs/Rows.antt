-- What a search found, written out: by computing.
-- Assumes nothing.
use Prim.Native.Nat.{ℕ}
use mathlib.Core.Path.{◌≡◌, refl}
use mathlib.Core.Option.{none, some}
use mathlib.Core.List.{[], ◌∷◌, map}
use Rattle.std.specs.Prelude.{Some, None}
use Rattle.outcomes.specs.Outcomes.{option_of}

pub found_says : map (option_of {A = ℕ}) (Some 0 ∷ Some 5459 ∷ None ∷ []) ≡ some 0 ∷ some 5459 ∷ none ∷ []
found_says = refl

-- Refusal 8 with its field, written out: by computing.
-- Assumes nothing.
use mathlib.Core.Path.{◌≡◌, refl}
use mathlib.Core.Option.{none, some}
use mathlib.Core.List.{[], ◌∷◌, map}
use Rattle.std.specs.Prelude.{Some, None}
use Rattle.os2_store.specs.Storing.{misfit_found}

pub misfits_say : map misfit_found (Some 0 ∷ Some 47 ∷ None ∷ []) ≡ some (record { number = 8; carried = some 0 }) ∷ some (record { number = 8; carried = some 47 }) ∷ none ∷ []
misfits_say = refl

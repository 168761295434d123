-- The examples, and what the code's verdicts say, written out: by computing.
-- Assumes nothing.
use mathlib.Core.Path.{◌≡◌, refl}
use mathlib.Core.Bool.{true, false}
use mathlib.Core.Option.{none, some}
use mathlib.Core.List.{[], ◌∷◌, map}
use Rattle.outcomes.specs.Firsts.{when, ◌then◌, first_among}
use Rattle.outcomes.specs.Outcomes.{Refusal}
use Rattle.std.specs.Prelude.{Ok, Err}
use Rattle.os2_rules.specs.declared.BrokenRule.TheVariants.{Weight, Width, TypeBits, Rights, Selection, Regular, Sizes}
use Rattle.os2_rules.specs.Bits.{bit, bits}
use Rattle.os2_rules.specs.Tests.{weight_broken, width_broken, type_broken, rights_broken, selection_broken, regular_broken, sizes_broken, broken, verdict_of, rule_number, said, kept}
use Rattle.os2_rules.specs.Examples.{RightsVerdicts}

pub rights_verdicts : RightsVerdicts
unfolding verdict_of first_among ◌then◌ when broken weight_broken width_broken type_broken rights_broken selection_broken regular_broken sizes_broken bit bits
rights_verdicts = refl

pub numbers : map rule_number (Weight ∷ Width ∷ TypeBits ∷ Rights ∷ Selection ∷ Regular ∷ Sizes ∷ []) ≡ 1 ∷ 2 ∷ 3 ∷ 4 ∷ 5 ∷ 6 ∷ 7 ∷ []
numbers = refl

pub verdicts : map said (Ok tt ∷ Err Weight ∷ Err Sizes ∷ []) ≡ none ∷ some (record { number = 3; carried = some 1 }) ∷ some (record { number = 3; carried = some 7 }) ∷ []
verdicts = refl

pub keeps : (r : Refusal) → map kept (none ∷ some r ∷ []) ≡ true ∷ false ∷ []
keeps r = refl

-- The refusals of the code, each with its number and what it carries, written out as document 01's table has them: by computing.
-- Assumes nothing.
use mathlib.Core.Path.{◌≡◌, refl}
use mathlib.Core.Option.{none, some}
use mathlib.Core.List.{List, [], ◌∷◌, map}
use Rattle.outcomes.specs.Outcomes.{bare, refused, accepted, unless}
use Rattle.os2_acceptance.specs.declared.Refusal.{Refusal}
use Rattle.os2_acceptance.specs.declared.Refusal.TheVariants.{LevelAbove, TooShort, RuleBroken, NoField, NoBit}
use Rattle.std.specs.Prelude.{Ok, Err}
use Rattle.os2_rules.specs.declared.BrokenRule.TheVariants.{Regular}
use Rattle.os2_acceptance.specs.Replies.{said_refusal, said_found, said_check}

abbrev refusals : List Refusal
refusals =
    LevelAbove ∷ TooShort ∷ RuleBroken Regular ∷ NoField ∷ NoBit ∷ []

pub numbers : map (λ r. (said_refusal r).number) refusals ≡ 1 ∷ 2 ∷ 3 ∷ 6 ∷ 7 ∷ []
numbers = refl

pub carries : map (λ r. (said_refusal r).carried) refusals ≡ none ∷ none ∷ some 6 ∷ none ∷ none ∷ []
carries = refl

pub found : map said_found (Ok tt ∷ Err TooShort ∷ []) ≡ none ∷ some (bare 2) ∷ []
found = refl

pub checks : map said_check (Ok tt ∷ Err (RuleBroken Regular) ∷ []) ≡ accepted ∷ refused 3 (some 6) ∷ []
unfolding unless
checks = refl

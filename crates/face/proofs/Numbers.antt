-- The refusals of the code, each with its number and what it carries, written out as the papers have them: by computing.
-- Assumes nothing.
use mathlib.Core.Path.{◌≡◌, refl}
use mathlib.Core.Option.{none, some}
use mathlib.Core.List.{List, [], ◌∷◌, map}
use mathlib.Core.Bool.{true}
use Rattle.outcomes.specs.Outcomes.{refused, answered}
use Rattle.std.specs.Prelude.{Ok, Err}
use Rattle.os2_rules.specs.declared.BrokenRule.TheVariants.{Regular}
use Rattle.os2_acceptance.specs.declared.Refusal.TheVariants.{LevelAbove, TooShort, RuleBroken}
use Rattle.name.specs.declared.Refusal.TheVariants as names
use Rattle.name_lookup.specs.declared.LookupRefusal.TheVariants.{Table, NoRecord}
use Rattle.face.specs.declared.Refusal.{Refusal}
use Rattle.face.specs.declared.Refusal.TheVariants.{Os2, Newer, Name, Unfit}
use Rattle.face.specs.Replies.{said_face_refusal, said_found}

abbrev refusals : List Refusal
refusals = Os2 LevelAbove ∷ Os2 TooShort ∷ Os2 (RuleBroken Regular) ∷ Newer ∷ Name (Table names.TooShort) ∷ Name (Table (names.KeyEqual 4)) ∷ Name NoRecord ∷ Unfit ∷ []

pub numbers : map (λ r. (said_face_refusal r).number) refusals ≡ 1 ∷ 2 ∷ 3 ∷ 52 ∷ 10 ∷ 19 ∷ 20 ∷ 51 ∷ []
numbers = refl

pub carries : map (λ r. (said_face_refusal r).carried) refusals ≡ none ∷ none ∷ some 6 ∷ none ∷ none ∷ some 4 ∷ none ∷ none ∷ []
carries = refl

-- a face's family is the part of the table from its start on
pub faces : map (said_found (70 ∷ 71 ∷ 72 ∷ 73 ∷ 74 ∷ []))
    (Ok (record { weight = 400; width = 5; sloped = true; start = 1; len = 3 }) ∷ Err Newer ∷ Err (Os2 (RuleBroken Regular)) ∷ [])
    ≡ answered (record { family = 71 ∷ 72 ∷ 73 ∷ []; weight = 400; width = 5; sloped = true }) ∷ refused 52 none ∷ refused 3 (some 6) ∷ []
faces = refl

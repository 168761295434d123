-- The refusals and answers of the code, written out as the papers have them, and what some slots hold: by computing.
-- Assumes nothing.
use Prim.Native.Nat.{ℕ}
use mathlib.Core.Path.{◌≡◌, refl}
use mathlib.Core.Bool.{Bool, true, false}
use mathlib.Core.Option.{Option, none, some}
use mathlib.Core.List.{List, [], ◌∷◌, map, ◌++◌}
use lib.ListN.{replicate}
use Rattle.outcomes.specs.Outcomes.{refused, answered, accepted}
use Rattle.choice.specs.Faces.{Face}
use Rattle.std.specs.Prelude.{Ok, Err}
use Rattle.os2_rules.specs.declared.BrokenRule.TheVariants.{Regular}
use Rattle.os2_acceptance.specs.declared.Refusal.TheVariants as os2
use Rattle.name_lookup.specs.declared.LookupRefusal.TheVariants.{NoRecord}
use Rattle.face.specs.declared.Refusal.TheVariants.{Os2, Newer, Name, Unfit}
use Rattle.face.specs.Reading.{unfit}
use Rattle.chooser.specs.declared.Slot.{Slot}
use Rattle.chooser.specs.declared.Refusal.{Refusal}
use Rattle.chooser.specs.declared.Refusal.TheVariants.{LevelAbove, NoSlot, Taken, Font, Empty, NoFace}
use Rattle.chooser.specs.Racks.{slot_of, held}
use Rattle.chooser.specs.Calls.{nobody}
use Rattle.chooser.specs.Replies.{said_refusal, said_change, said_choice}

abbrev refusals : List Refusal
refusals =
    LevelAbove ∷ NoSlot ∷ Taken ∷ Font (Os2 os2.TooShort) ∷ Font (Os2 (os2.RuleBroken Regular)) ∷ Font Newer ∷ Font (Name NoRecord) ∷ Font Unfit ∷ Empty ∷ NoFace ∷ []

pub numbers : map (λ r. (said_refusal r).number) refusals ≡ 1 ∷ 54 ∷ 53 ∷ 2 ∷ 3 ∷ 52 ∷ 20 ∷ 51 ∷ 55 ∷ 50 ∷ []
numbers = refl

pub carries : map (λ r. (said_refusal r).carried) refusals ≡ none ∷ none ∷ none ∷ none ∷ some 6 ∷ none ∷ none ∷ none ∷ none ∷ none ∷ []
carries = refl

pub changes : map said_change (Ok tt ∷ Err Taken ∷ Err Empty ∷ []) ≡ accepted ∷ refused 53 none ∷ refused 55 none ∷ []
changes = refl

pub choices : map said_choice (Ok 0 ∷ Ok 31 ∷ Err NoFace ∷ []) ≡ answered 0 ∷ answered 31 ∷ refused 50 none ∷ []
choices = refl

-- a slot of 64 bytes, by its slope and its length: the bytes behind the family are not looked at
abbrev slot : ℕ → ℕ → Slot
slot sloped length = record { weight = 400; width = 5; sloped = sloped; length = length; family = 70 ∷ 71 ∷ replicate 62 72 }

abbrev face : Bool → List ℕ → Option Face
face sloped family = some (record { family = family; weight = 400; width = 5; sloped = sloped })

pub slots_hold : map slot_of
    (slot 0 0 ∷ slot 0 1 ∷ slot 1 2 ∷ slot 7 2 ∷ slot 65535 3 ∷ slot 0 64 ∷ slot 0 65 ∷ slot 0 65535
    ∷ slot 2 1 ∷ slot 256 1 ∷ slot 32768 1 ∷ slot 0 256 ∷ slot 0 257 ∷ slot 0 320 ∷ [])
    ≡ none ∷ face false (70 ∷ []) ∷ face true (70 ∷ 71 ∷ []) ∷ face true (70 ∷ 71 ∷ []) ∷ face true (70 ∷ 71 ∷ 72 ∷ []) ∷ face false (70 ∷ 71 ∷ replicate 62 72) ∷ none ∷ none
    ∷ face true (70 ∷ []) ∷ face true (70 ∷ []) ∷ face true (70 ∷ []) ∷ none ∷ none ∷ none ∷ []
unfolding slot_of unfit
slots_hold = refl

-- slot i is the i-th of the rack, and past the last there is none
pub racks_hold : map (held (record { slots = slot 0 1 ∷ slot 0 0 ∷ slot 1 2 ∷ (replicate 28 (slot 0 0) ++ slot 0 2 ∷ []) })) (0 ∷ 1 ∷ 2 ∷ 3 ∷ 30 ∷ 31 ∷ 32 ∷ [])
    ≡ face false (70 ∷ []) ∷ none ∷ face true (70 ∷ 71 ∷ []) ∷ none ∷ none ∷ face false (70 ∷ 71 ∷ []) ∷ none ∷ []
unfolding held slot_of unfit
racks_hold = refl

-- a rack of empty slots: none holds a face
pub nobody_holds : (i : ℕ) → nobody i ≡ none
unfolding nobody
nobody_holds i = refl

-- The three calls on a map from slot to face: what each answers, and the map after it. Document 02, Ask 7. (What a request answers stands in `choice`.)
use Rattle.std.specs.Prelude.{ℕ, Bool, true, false, cond, not, List, ltb, eqb}
use Rattle.std.proofs.Math.Option.{Option, none, some}
use Rattle.outcomes.specs.Firsts.{when, ◌then◌}
use Rattle.outcomes.specs.Outcomes.{Refusal, bare, Outcome, refused, answered, accepted, unless}
use Rattle.choice.specs.Faces.{Face, Slots}
use Rattle.level.specs.Levels.{newest}
use Rattle.face.specs.Reading.{face_in}

-- 32 empty slots
unfoldable pub nobody : Slots
nobody i = none

-- a slot holds a face
unfoldable pub taken : Option Face → Bool
taken none = false
taken (some f) = true

-- the map with something else in one slot
unfoldable pub put : Slots → ℕ → Option Face → Slots
put m i x j = cond (eqb j i) x (m j)

-- 54: "slot above 31"
unfoldable pub no_such_slot : ℕ → Bool
no_such_slot i = ltb 31 i

-- "1 for the level, 54 slot above 31, 53 slot taken", of slot i, which is taken or not
unfoldable pub before_tables : Bool → ℕ → ℕ → Option Refusal
before_tables is_taken i L = when (ltb newest L) (bare 1) then when (no_such_slot i) (bare 54) then when is_taken (bare 53)

-- then what the two tables give: the face that fills the slot, or a refusal
unfoldable pub load_of : Slots → (i L : ℕ) → (b n : List ℕ) → Outcome Face
load_of m i L b n = unless (before_tables (taken (m i)) i L) (face_in L b n)

-- "On unload: 54, then 55 slot empty."
unfoldable pub emptying : Bool → ℕ → Outcome (Unit {0})
emptying is_taken i = unless (when (no_such_slot i) (bare 54) then when (not is_taken) (bare 55)) accepted

unfoldable pub unload_of : Slots → ℕ → Outcome (Unit {0})
unload_of m i = emptying (taken (m i)) i

-- what is answered of a load: that it is done, or the refusal
unfoldable pub done_of : {A : Type 0} → Outcome A → Outcome (Unit {0})
done_of (answered x) = accepted
done_of (refused n c) = refused n c

-- "A load fills and an unload empties its own slot alone; .. a refused call changes no slot."
unfoldable pub after_load : Slots → ℕ → Outcome Face → Slots
after_load m i (answered f) = put m i (some f)
after_load m i (refused n c) = m

unfoldable pub after_unload : Slots → ℕ → Outcome (Unit {0}) → Slots
after_unload m i (answered x) = put m i none
after_unload m i (refused n c) = m

-- in the code: what its own slot holds after a load, and after an unload
abbrev pub slot_after : Option Face → Outcome Face → Option Face
slot_after x (answered f) = some f
slot_after x (refused n c) = x

abbrev pub slot_left : Option Face → Outcome (Unit {0}) → Option Face
slot_left x (answered y) = none
slot_left x (refused n c) = x

-- What document 02, Ask 7, settles of a load and an unload, in propositions, over any implementation: the answer, and the map from slot to face after it.
use Rattle.std.specs.Prelude.{ℕ, ◌<◌, ◌≤◌, ◌≡◌, List}
use Rattle.std.proofs.Math.Option.{Option, none, some}
use Rattle.bigendian.specs.Numbers.{Bytes}
use Rattle.outcomes.specs.Outcomes.{Outcome, refused, answered, accepted}
use Rattle.choice.specs.Faces.{Face, Slots}
use Rattle.level.specs.Levels.{newest}
use Rattle.face.specs.Settled.{FaceSettled}

-- "Refusals on load, in order: 1 for the level, 54 slot above 31, 53 slot taken", and then those of the tables; else the face that fills the slot
pub data LoadSettled (m : Slots) (i L : ℕ) (b n : List ℕ) : Outcome Face → Type 0 where
  level_above : newest < L → LoadSettled m i L b n (refused 1 none)
  slot_above : L ≤ newest → 31 < i → LoadSettled m i L b n (refused 54 none)
  slot_taken : {f : Face} → L ≤ newest → i ≤ 31 → m i ≡ some f → LoadSettled m i L b n (refused 53 none)
  of_tables : {o : Outcome Face} → L ≤ newest → i ≤ 31 → m i ≡ none → FaceSettled L b n o → LoadSettled m i L b n o

-- "On unload: 54, then 55 slot empty."
pub data UnloadSettled (m : Slots) (i : ℕ) : Outcome (Unit {0}) → Type 0 where
  unload_above : 31 < i → UnloadSettled m i (refused 54 none)
  unload_empty : i ≤ 31 → m i ≡ none → UnloadSettled m i (refused 55 none)
  unload_done : {f : Face} → i ≤ 31 → m i ≡ some f → UnloadSettled m i accepted

-- n is the map m with x in slot i, and no other slot changed
pub record OwnSlot (m : Slots) (i : ℕ) (x : Option Face) (n : Slots) : Type 0 where
  pub own : n i ≡ x
  pub alone : (j : ℕ) → (j ≡ i → ⊥) → n j ≡ m j

-- no slot is changed
abbrev pub Unchanged : Slots → Slots → Type 0
Unchanged m n = (j : ℕ) → n j ≡ m j

-- a load by its answer and the map after it: "A load fills .. its own slot alone; .. a refused call changes no slot."
pub data Load (m : Slots) (i L : ℕ) (b n : List ℕ) : Outcome (Unit {0}) → Slots → Type 0 where
  load_fills : {f : Face} {after : Slots} → LoadSettled m i L b n (answered f) → OwnSlot m i (some f) after → Load m i L b n accepted after
  load_refused : {k : ℕ} {c : Option ℕ} {after : Slots} → LoadSettled m i L b n (refused k c) → Unchanged m after → Load m i L b n (refused k c) after

-- an unload likewise: "an unload empties its own slot alone"
pub data Unload (m : Slots) (i : ℕ) : Outcome (Unit {0}) → Slots → Type 0 where
  unload_empties : {after : Slots} → UnloadSettled m i accepted → OwnSlot m i none after → Unload m i accepted after
  unload_refused : {k : ℕ} {c : Option ℕ} {after : Slots} → UnloadSettled m i (refused k c) → Unchanged m after → Unload m i (refused k c) after

-- of any chooser, by its answer and the map after it
abbrev pub LoadsSettled : (Slots → ℕ → ℕ → List ℕ → List ℕ → Outcome (Unit {0})) → (Slots → ℕ → ℕ → List ℕ → List ℕ → Slots) → Type 0
LoadsSettled answer after = (m : Slots) (i L : ℕ) (b n : List ℕ) → Bytes n → Load m i L b n (answer m i L b n) (after m i L b n)

abbrev pub UnloadsSettled : (Slots → ℕ → Outcome (Unit {0})) → (Slots → ℕ → Slots) → Type 0
UnloadsSettled answer after = (m : Slots) (i : ℕ) → Unload m i (answer m i) (after m i)

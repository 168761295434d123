-- The choice in propositions, over any implementation. Document 02, Ask 7: "Among loaded faces with exactly that family, the choice is the one with matching slope first, then the smallest
-- width difference, then the smallest weight difference, then the lower weight, then the lower slot.", and "50 exactly if no loaded face has the family".
use Rattle.std.specs.Prelude.{ℕ, ◌+◌, ◌<◌, ◌≡◌, ◌⊎◌, List}
use Rattle.std.proofs.Math.Option.{none, some}
use Rattle.outcomes.specs.Outcomes.{Outcome, refused, answered}
use Rattle.choice.specs.declared.Want.{Want}
use Rattle.choice.specs.Faces.{Face, Slots}

-- d is the difference of two whole numbers
abbrev pub Difference : ℕ → ℕ → ℕ → Type 0
Difference a b d = (a + d ≡ b) ⊎ (b + d ≡ a)

-- a has a smaller difference to what is wanted than b has
pub record Nearer (wanted a b : ℕ) : Type 0 where
  pub one : ℕ
  pub other : ℕ
  pub of_a : Difference wanted a one
  pub of_b : Difference wanted b other
  pub smaller : one < other

-- both have the same difference to it
pub record AsNear (wanted a b : ℕ) : Type 0 where
  pub both : ℕ
  pub of_a : Difference wanted a both
  pub of_b : Difference wanted b both

-- face f in slot i comes before face g in slot j
pub data Before (w : Want) (i : ℕ) (f : Face) (j : ℕ) (g : Face) : Type 0 where
  -- "matching slope first"
  matching_slope : f.sloped ≡ w.sloped → (g.sloped ≡ w.sloped → ⊥) → Before w i f j g
  -- "then the smallest width difference"
  nearer_width : f.sloped ≡ g.sloped → Nearer w.width f.width g.width → Before w i f j g
  -- "then the smallest weight difference"
  nearer_weight : f.sloped ≡ g.sloped → AsNear w.width f.width g.width → Nearer w.weight f.weight g.weight → Before w i f j g
  -- "then the lower weight"
  lower_weight : f.sloped ≡ g.sloped → AsNear w.width f.width g.width → AsNear w.weight f.weight g.weight → f.weight < g.weight → Before w i f j g
  -- "then the lower slot"
  lower_slot : f.sloped ≡ g.sloped → AsNear w.width f.width g.width → AsNear w.weight f.weight g.weight → f.weight ≡ g.weight → i < j → Before w i f j g

-- one of the 32 slots holds a face "with exactly that family"
pub record Loaded (m : Slots) (family : List ℕ) (i : ℕ) (f : Face) : Type 0 where
  pub slot : i < 32
  pub holds : m i ≡ some f
  pub exactly : f.family ≡ family

-- slot i is chosen: it holds a face of the family, and no other that does comes before it
pub record Chosen (m : Slots) (family : List ℕ) (w : Want) (i : ℕ) : Type 0 where
  pub face : Face
  pub loaded : Loaded m family i face
  pub first : (j : ℕ) (g : Face) → Loaded m family j g → Before w j g i face → ⊥

-- what a request is answered
pub data RequestSettled (m : Slots) (family : List ℕ) (w : Want) : Outcome ℕ → Type 0 where
  no_face : ((i : ℕ) (f : Face) → Loaded m family i f → ⊥) → RequestSettled m family w (refused 50 none)
  is_chosen : {i : ℕ} → Chosen m family w i → RequestSettled m family w (answered i)

-- of any chooser: to any request, whatever the slots hold, what is settled
abbrev pub RequestsSettled : (Slots → List ℕ → Want → Outcome ℕ) → Type 0
RequestsSettled request = (m : Slots) (family : List ℕ) (w : Want) → RequestSettled m family w (request m family w)

-- of any chooser: a request depends on the loaded faces and on itself alone
abbrev pub DependsOnFaces : (Slots → List ℕ → Want → Outcome ℕ) → Type 0
DependsOnFaces request =
    (m n : Slots) → ((i : ℕ) → i < 32 → m i ≡ n i) → (family : List ℕ) (w : Want) → request m family w ≡ request n family w

-- What the code answers in the papers' words and numbers, case by case.
use Rattle.std.specs.Prelude.{ℕ, ◌<◌, ◌≤◌, ◌≡◌, List, Result, Ok, Err}
use Rattle.outcomes.specs.Outcomes as outcomes
use Rattle.outcomes.specs.Outcomes.{bare, Outcome, outcome_of}
use Rattle.choice.specs.Faces.{Face}
use Rattle.face.specs.declared.FaceAt.{FaceAt}
use Rattle.face.specs.Replies.{said_face_refusal, face_at, Fits}
use Rattle.chooser.specs.declared.Refusal.{Refusal}
use Rattle.chooser.specs.declared.Refusal.TheVariants.{LevelAbove, NoSlot, Taken, Font, Empty, NoFace}

-- a refusal's number, and what it carries
abbrev pub said_refusal : Refusal → outcomes.Refusal
said_refusal LevelAbove = bare 1
said_refusal NoSlot = bare 54
said_refusal Taken = bare 53
said_refusal (Font r) = said_face_refusal r
said_refusal Empty = bare 55
said_refusal NoFace = bare 50

-- the face to load, whose family stands in the table n
abbrev pub said_reading : List ℕ → Result FaceAt Refusal → Outcome Face
said_reading n r = outcome_of (face_at n) said_refusal r

abbrev pub ReadingFits : List ℕ → Result FaceAt Refusal → Type 0
ReadingFits n (Ok x) = Fits n x
ReadingFits n (Err r) = Unit {0}

-- what a load or an unload answers
abbrev pub said_change : Result (Unit {0}) Refusal → Outcome (Unit {0})
said_change r = outcome_of (λ x. x) said_refusal r

-- what a request answers
abbrev pub said_choice : Result ℕ Refusal → Outcome ℕ
said_choice r = outcome_of (λ i. i) said_refusal r

-- the place of a slot, if there is such a slot
pub record Place (slot at : ℕ) : Type 0 where
  pub inside : at < 32
  pub own : slot ≤ 31 → at ≡ slot

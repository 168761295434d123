-- The demands as predicates over any reader: nothing here speaks of ours.
use Rattle.std.specs.Prelude.{ℕ, ◌<◌, ◌≤◌, ◌≡◌, ◌⊎◌, ◌↔◌, List}
use Rattle.outcomes.specs.Outcomes.{Outcome, answered, accepted}
use Rattle.os2_fields.specs.Fields.{version}
use Rattle.os2_acceptance.specs.Settled.{Accepted}
use Rattle.os2_acceptance.specs.Demands.{trimmed}
use Rattle.os2_questions.specs.declared.Question.{Question}
use Rattle.os2_questions.specs.Settled.{CameIn, Later}
use Rattle.os2_answers.specs.Values.{Said, not_known}
use Rattle.os2_answers.specs.Settled.{Settled}

-- demands 1 and 2, of a reader: to any question on any bytes at any number for a level, the answer that document 01 settles
abbrev pub AnswersSettled : (ℕ → List ℕ → Question → Outcome Said) → Type 0
AnswersSettled read = (L : ℕ) (b : List ℕ) (q : Question) → Settled L b q (read L b q)

-- demand 3, at two levels, some bytes and a question
pub record Agreement (check : ℕ → List ℕ → Outcome (Unit {0})) (read : ℕ → List ℕ → Question → Outcome Said) (L H : ℕ) (b : List ℕ) (q : Question) : Type 0 where
  -- "A level accepts the bytes exactly when neither 2's nor 3's condition holds for them there, whatever is asked."
  pub lower_exactly : (check L b ≡ accepted) ↔ Accepted L b
  pub higher_exactly : (check H b ≡ accepted) ↔ Accepted H b
  -- "If the higher level accepts the bytes, so does the lower."
  pub lower_accepts : check H b ≡ accepted → check L b ≡ accepted
  -- "To the question the lower level then gives the higher level's answer, a refusal's number included, or says "not known""
  pub same_or_not_known : check H b ≡ accepted → (read L b q ≡ read H b q) ⊎ (read L b q ≡ answered not_known)
  -- "both answers are those that document 01 settles"
  pub lower_settled : Settled L b q (read L b q)
  pub higher_settled : Settled H b q (read H b q)
  -- "On bytes it accepts, the lower level says "not known" exactly when ..."
  pub not_known_exactly : check L b ≡ accepted → (read L b q ≡ answered not_known) ↔ Later L b q

-- "whatever the OS/2 bytes are, for every two levels from 0 to 5, equal ones too, and for every question that document 01 lists"
abbrev pub Demand3 : (ℕ → List ℕ → Outcome (Unit {0})) → (ℕ → List ℕ → Question → Outcome Said) → Type 0
Demand3 check read = (L H : ℕ) → L ≤ H → H ≤ 5 → (b : List ℕ) (q : Question) → Agreement check read L H b q

-- ---- beside the demands

-- "Extra bytes are allowed and not read.": a table's first bytes, up to the size for the smaller of w and L, answer all that the table answers
abbrev pub ReadsNoMore : (ℕ → List ℕ → Question → Outcome Said) → Type 0
ReadsNoMore read = (L : ℕ) (b : List ℕ) (q : Question) → read L (trimmed L b) q ≡ read L b q

-- what two levels owe each other also where the higher refuses: of what came in with version 0, both give the same answer, or the lower accepts the
-- bytes and the table's version is above it
abbrev pub SameOrNewer : (ℕ → List ℕ → Question → Outcome Said) → Type 0
SameOrNewer read = (L H : ℕ) → L ≤ H → H ≤ 5 → (b : List ℕ) (q : Question) → CameIn q 0 →
    (read L b q ≡ read H b q) ⊎ (Accepted L b × (L < version b))

-- What document 02, Ask 2, settles of two 'OS/2' tables, in propositions, over any comparison.
use Rattle.std.specs.Prelude.{ℕ, ◌<◌, ◌≤◌, ◌≡◌, List, ℤ, length}
use Rattle.outcomes.specs.Outcomes.{Refusal, bare, answered, refusing}
use Rattle.level.specs.Levels.{newest}
use Rattle.os2_acceptance.specs.Settled.{CheckSettled}
use Rattle.os2_questions.specs.declared.Question.TheVariants.{Field}
use Rattle.os2_answers.specs.declared.Answer.{Answer}
use Rattle.os2_answers.specs.declared.Answer.TheVariants.{NotKnown}
use Rattle.os2_answers.specs.Replies.{said_answer}
use Rattle.os2_answers.specs.Settled.{Settled}
use Rattle.comparing.specs.Comparisons.{Comparison}
use Rattle.comparing.specs.Settled as comparisons
use Rattle.os2_compare.specs.Differences.{Difference, row_of}

-- a field on which the two tables' answers at the level, which document 01 settles, are not the same
pub data Differs (L : ℕ) (left right : List ℕ) : Difference → Type 0 where
  field_differs : {k : ℕ} {a b : Answer ℤ} → k ≤ 47 → Settled L left (Field k) (answered (said_answer a)) → Settled L right (Field k) (answered (said_answer b)) →
      (a ≡ b → ⊥) → Differs L left right (record { field = k; left = a; right = b })

-- "in field order"
abbrev pub FieldBelow : Difference → Difference → Type 0
FieldBelow d e = d.field < e.field

-- the call's own refusal, and a table's
abbrev pub CallRefused : ℕ → Refusal → Type 0
CallRefused L r = (newest < L) × (r ≡ bare 1)

abbrev pub TableRefused : ℕ → List ℕ → Refusal → Type 0
TableRefused L b r = CheckSettled L b (refusing r)

-- all of Ask 2 for two 'OS/2' tables
abbrev pub CompareSettled : ℕ → List ℕ → List ℕ → List ℤ → Comparison → List ℤ → Type 0
CompareSettled L left right room =
    comparisons.Settled (CallRefused L) (TableRefused L left) (TableRefused L right) FieldBelow (Differs L left right) row_of room

-- of any comparison, given by its answer and the room after it
abbrev pub ComparesOs2 : (ℕ → List ℕ → List ℕ → ℕ → Comparison) → (ℕ → List ℕ → List ℕ → List ℤ → List ℤ) → Type 0
ComparesOs2 answer after =
    (L : ℕ) (left right : List ℕ) (room : List ℤ) → CompareSettled L left right room (answer L left right (length room)) (after L left right room)

-- of any list of what differs: "not known" stands on both sides or on none, so no row has it
abbrev pub NeverNotKnown : Type 0
NeverNotKnown = (L : ℕ) (left right : List ℕ) (d : Difference) → Differs L left right d → (d.left ≡ NotKnown → ⊥) × (d.right ≡ NotKnown → ⊥)

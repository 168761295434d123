-- Document 02, Ask 2: "For OS/2: field number, both answers, in field order, exactly where the answers differ."
use Rattle.std.specs.Prelude.{ℕ, Bool, false, not, ◌&&◌, List, [], ◌∷◌, eqb, ℤ, pos, negsuc}
use Rattle.std.proofs.Math.Option.{Option}
use Rattle.outcomes.specs.Firsts.{when}
use Rattle.os2_fields.specs.declared.catalogue.Field.{Field}
use Rattle.os2_fields.specs.Catalogue.{field_count, field_of}
use Rattle.os2_fields.specs.Fields.{version}
use Rattle.os2_questions.specs.declared.Case.{Case}
use Rattle.os2_questions.specs.declared.Case.TheVariants as Case·
use Rattle.os2_questions.specs.Cases.{case_of}
use Rattle.os2_answers.specs.declared.Answer.{Answer}
use Rattle.os2_answers.specs.declared.Answer.TheVariants.{Value, Absent, NotKnown}
use Rattle.os2_answers.specs.Values.{field_value}
use Rattle.comparing.specs.Lists.{list_below}

-- "field number, both answers"
pub record Difference : Type 0 where
  pub field : ℕ
  pub left : Answer ℤ
  pub right : Answer ℤ

-- what level L answers on a field of a table that it accepts
abbrev pub answer_for : Case → ℤ → Answer ℤ
answer_for Case·.NotKnown x = NotKnown
answer_for Case·.Absent x = Absent
answer_for Case·.Value x = Value x

unfoldable pub answer_in : ℕ → List ℕ → Field → Answer ℤ
answer_in L b f = answer_for (case_of f.since false L (version b)) (field_value b f)

-- an answer in a row: which of the three it is, and the value, 0 where there is none
abbrev pub kind_of : Answer ℤ → ℕ
kind_of (Value x) = 1
kind_of Absent = 2
kind_of NotKnown = 3

abbrev pub figure_of : Answer ℤ → ℤ
figure_of (Value x) = x
figure_of Absent = pos 0
figure_of NotKnown = pos 0

-- two answers are the same if they are the same of the three, with the same value
unfoldable pub same_figure : ℤ → ℤ → Bool
same_figure (pos x) (pos y) = eqb x y
same_figure (pos x) (negsuc y) = false
same_figure (negsuc x) (pos y) = false
same_figure (negsuc x) (negsuc y) = eqb x y

unfoldable pub differ : Answer ℤ → Answer ℤ → Bool
differ a b = not (eqb (kind_of a) (kind_of b) && same_figure (figure_of a) (figure_of b))

-- field k, where the answers differ
unfoldable pub difference_at : ℕ → List ℕ → List ℕ → ℕ → Option Difference
difference_at L left right k =
    when (differ (answer_in L left (field_of k)) (answer_in L right (field_of k)))
    (record { field = k; left = answer_in L left (field_of k); right = answer_in L right (field_of k) })

-- "in field order": the 48 fields in turn
unfoldable pub differences : ℕ → List ℕ → List ℕ → List Difference
differences L left right = list_below (difference_at L left right) field_count

-- a row: the field, then each answer
unfoldable pub row_of : Difference → List ℤ
row_of d = pos d.field ∷ pos (kind_of d.left) ∷ figure_of d.left ∷ pos (kind_of d.right) ∷ figure_of d.right ∷ []

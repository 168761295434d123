-- What the functions that answer on a bit ask.
use Rattle.std.specs.Prelude.{ℕ, ◌<◌, ◌≤◌, ◌≡◌, List}
use Rattle.std.proofs.Math.Option.{none}
use Rattle.os2_fields.specs.declared.catalogue.Field.{Field}
use Rattle.os2_fields.specs.Fields.{version}
use Rattle.os2_fields.specs.Reading.{Lies}
use Rattle.os2_acceptance.specs.Acceptance.{judged}
use Rattle.os2_questions.specs.declared.Question.{Question}
use Rattle.os2_questions.specs.Questions.{own_refusal}

-- a question whose number is in its range, of a table that level L accepts
pub record Asked (L : ℕ) (b : List ℕ) (q : Question) : Type 0 where
  pub in_range : own_refusal q ≡ none
  pub opened : judged L b ≡ none

-- bit n of a field that lies in the table wherever version p is known and there
pub record BitIn (L : ℕ) (b : List ℕ) (p : ℕ) (f : Field) (n : ℕ) : Type 0 where
  pub lies : p ≤ L → p ≤ version b → Lies b f
  pub low : n < 32

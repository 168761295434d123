-- The code's replies in document 01's words and numbers, case by case.
use Rattle.std.specs.Prelude.{ℕ, ℤ, Result}
use Rattle.outcomes.specs.Outcomes.{Outcome, outcome_of}
use Rattle.level.specs.Levels.{number_of}
use Rattle.level.specs.declared.Level.{Level}
use Rattle.os2_style.specs.declared.EmbeddingRights.{EmbeddingRights}
use Rattle.os2_style.specs.declared.StylePosition.{StylePosition as Position}
use Rattle.os2_style.specs.declared.OpticalSizes.{OpticalSizes as Sizes}
use Rattle.os2_acceptance.specs.declared.Refusal.{Refusal}
use Rattle.os2_acceptance.specs.Replies.{said_refusal}
use Rattle.os2_questions.specs.declared.Question.{Question}
use Rattle.os2_questions.specs.declared.Question.TheVariants.{Field, SelectionBit, UnicodeBit, CodePageBit, Rights, StylePosition, OpticalSizes}
use Rattle.os2_answers.specs.declared.Answer.{Answer}
use Rattle.os2_answers.specs.Values.{Said}
use Rattle.os2_answers.specs.Replies.{said_answer, said_rights_answer, said_style_answer, said_optical_answer}
use Rattle.os2.specs.declared.AnyReply.{AnyReply}
use Rattle.os2.specs.declared.AnyReply.TheVariants as AnyReply·

-- what comes before an answer: a refusal, or the number of the level to answer at
abbrev pub said_opening : Result Level Refusal → Outcome ℕ
said_opening r = outcome_of number_of said_refusal r

-- the replies: an answer, or a refusal
abbrev pub said_reply : Result (Answer ℤ) Refusal → Outcome Said
said_reply r = outcome_of said_answer said_refusal r

abbrev pub said_rights_reply : Result (Answer EmbeddingRights) Refusal → Outcome Said
said_rights_reply r = outcome_of said_rights_answer said_refusal r

abbrev pub said_style_reply : Result (Answer Position) Refusal → Outcome Said
said_style_reply r = outcome_of said_style_answer said_refusal r

abbrev pub said_optical_reply : Result (Answer Sizes) Refusal → Outcome Said
said_optical_reply r = outcome_of said_optical_answer said_refusal r

-- any question: the kind of its reply, and what that says
pub data Kind : Type 0 where
  of_number : Kind
  of_rights : Kind
  of_style : Kind
  of_optical : Kind

abbrev pub kind_of : Question → Kind
kind_of (Field k) = of_number
kind_of (SelectionBit n) = of_number
kind_of (UnicodeBit n) = of_number
kind_of (CodePageBit n) = of_number
kind_of Rights = of_rights
kind_of StylePosition = of_style
kind_of OpticalSizes = of_optical

abbrev pub said_any_reply : AnyReply → Kind × Outcome Said
said_any_reply (AnyReply·.Number r) = (of_number, said_reply r)
said_any_reply (AnyReply·.Rights r) = (of_rights, said_rights_reply r)
said_any_reply (AnyReply·.Style r) = (of_style, said_style_reply r)
said_any_reply (AnyReply·.Optical r) = (of_optical, said_optical_reply r)

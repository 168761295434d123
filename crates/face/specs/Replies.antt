-- What the code answers in the papers' words and numbers, case by case.
use Rattle.std.specs.Prelude.{ℕ, ◌+◌, ◌≤◌, List, eqb, length, take, drop, Option as Maybe, Result, Ok, Err}
use Rattle.outcomes.specs.Outcomes as outcomes
use Rattle.outcomes.specs.Outcomes.{bare, Outcome, answered, found_or, option_of, outcome_of}
use Rattle.choice.specs.Faces.{Face}
use Rattle.os2_acceptance.specs.Replies.{said_refusal}
use Rattle.os2_rules.specs.Bits.{bit}
use Rattle.os2_fields.specs.Catalogue.{field_of}
use Rattle.os2_fields.specs.Fields.{raw}
use Rattle.os2_fields.specs.Reading.{Word}
use Rattle.os2_questions.specs.declared.Question.TheVariants.{Field, SelectionBit}
use Rattle.os2_answers.specs.Asking.{ask}
use Rattle.name_search.specs.declared.Text.{Text}
use Rattle.name_lookup.specs.Answers.{said_lookup_refusal}
use Rattle.face.specs.Reading.{number_in}
use Rattle.face.specs.declared.FaceAt.{FaceAt}
use Rattle.face.specs.declared.Refusal.{Refusal}
use Rattle.face.specs.declared.Refusal.TheVariants.{Os2, Newer, Name, Unfit}

-- a refusal's number, and what it carries
abbrev pub said_face_refusal : Refusal → outcomes.Refusal
said_face_refusal (Os2 r) = said_refusal r
said_face_refusal Newer = bare 52
said_face_refusal (Name r) = said_lookup_refusal r
said_face_refusal Unfit = bare 51

-- the record of an accepted table that is looked up, or 20
abbrev pub said_record : Maybe Text → Outcome Text
said_record r = found_or (bare 20) (option_of r) answered

-- a face whose family stands in the table n
abbrev pub face_at : List ℕ → FaceAt → Face
face_at n x = record { family = take x.len (drop x.start n); weight = x.weight; width = x.width; sloped = x.sloped }

abbrev pub said_found : List ℕ → Result FaceAt Refusal → Outcome Face
said_found n r = outcome_of (face_at n) said_face_refusal r

-- the face that the 'OS/2' table gives, with a text of the 'name' table
abbrev pub style_of : ℕ → List ℕ → Text → FaceAt
style_of L b x =
    record {
      weight = number_in (ask L b (Field 2));
      width = number_in (ask L b (Field 3));
      sloped = eqb (number_in (ask L b (SelectionBit 0))) 1;
      start = x.start;
      len = x.len;
    }

-- the same from the fields of an accepted table, whose bytes are there
abbrev pub style_in : List ℕ → Text → FaceAt
style_in b x = record { weight = raw b 2; width = raw b 3; sloped = eqb (bit 0 (raw b 31)) 1; start = x.start; len = x.len }

pub record Words (b : List ℕ) : Type 0 where
  pub weight : Word b (field_of 2)
  pub width : Word b (field_of 3)
  pub selection : Word b (field_of 31)

-- the text of a face lies within the table, and has 1 to 64 bytes
pub record Fits (n : List ℕ) (x : FaceAt) : Type 0 where
  pub inside : x.start + x.len ≤ length n
  pub some : 1 ≤ x.len
  pub most : x.len ≤ 64

abbrev pub FoundFits : List ℕ → Result FaceAt Refusal → Type 0
FoundFits n (Ok x) = Fits n x
FoundFits n (Err r) = Unit {0}

-- The seven questions, each with the kind of its reply, and what the replies of the code say, written out: by computing.
-- Assumes nothing.
use mathlib.Core.Path.{◌≡◌, refl}
use mathlib.Core.Option.{none, some}
use mathlib.Core.List.{List, [], ◌∷◌, map}
use Rattle.outcomes.specs.Outcomes.{refused, answered}
use Rattle.std.specs.Prelude.{Ok, Err}
use Rattle.os2_rules.specs.declared.BrokenRule.TheVariants.{Regular}
use Rattle.level.specs.declared.Level.TheVariants.{Four}
use Rattle.os2_acceptance.specs.declared.Refusal.TheVariants.{LevelAbove, TooShort, RuleBroken, NoField, NoBit}
use Rattle.os2_questions.specs.declared.Question.TheVariants.{Field, SelectionBit, UnicodeBit, CodePageBit, Rights, StylePosition, OpticalSizes}
use Rattle.os2_answers.specs.declared.Answer.TheVariants as Answer·
use Rattle.os2_answers.specs.Values.{absent, not_known}
use Rattle.os2.specs.declared.AnyReply.{AnyReply}
use Rattle.os2.specs.declared.AnyReply.TheVariants as AnyReply·
use Rattle.os2.specs.Replies.{said_opening, of_number, of_rights, of_style, of_optical, kind_of, said_any_reply}

pub kinds : map kind_of (Field 47 ∷ SelectionBit 9 ∷ UnicodeBit 127 ∷ CodePageBit 63 ∷ Rights ∷ StylePosition ∷ OpticalSizes ∷ [])
    ≡ of_number ∷ of_number ∷ of_number ∷ of_number ∷ of_rights ∷ of_style ∷ of_optical ∷ []
kinds = refl

pub openings : map said_opening (Ok Four ∷ Err NoBit ∷ []) ≡ answered 4 ∷ refused 7 none ∷ []
openings = refl

-- an answer and a refusal of each kind
abbrev answers : List AnyReply
answers =
    AnyReply·.Number (Ok Answer·.Absent)
    ∷ AnyReply·.Rights (Ok Answer·.NotKnown)
    ∷ AnyReply·.Style (Ok Answer·.NotKnown)
    ∷ AnyReply·.Optical (Ok Answer·.Absent) ∷ []

abbrev refusals : List AnyReply
refusals =
    AnyReply·.Number (Err NoField)
    ∷ AnyReply·.Rights (Err LevelAbove)
    ∷ AnyReply·.Style (Err TooShort)
    ∷ AnyReply·.Optical (Err (RuleBroken Regular)) ∷ []

pub answers_say : map said_any_reply answers
    ≡ (of_number, answered absent) ∷ (of_rights, answered not_known) ∷ (of_style, answered not_known) ∷ (of_optical, answered absent) ∷ []
answers_say = refl

pub refusals_say : map said_any_reply refusals
    ≡ (of_number, refused 6 none) ∷ (of_rights, refused 1 none) ∷ (of_style, refused 2 none) ∷ (of_optical, refused 3 (some 6)) ∷ []
refusals_say = refl

-- Document 02, Ask 1, on whole tables: "We turn away version 2 fonts with fsType 0x000C. .. bits 1 to 3 exclude each other only since version 3; before
-- it, the least restrictive set bit holds."
use Rattle.std.specs.Prelude.{ℕ, ◌≡◌, List, [], ◌∷◌, ◌++◌, map, replicate}
use Rattle.std.proofs.Math.Option.{some}
use Rattle.outcomes.specs.Outcomes.{Outcome, refused, answered, accepted}
use Rattle.os2_acceptance.specs.Acceptance.{checked}
use Rattle.os2_questions.specs.declared.Question.TheVariants.{Rights}
use Rattle.os2_answers.specs.Values.{Said, value, not_known, rights}
use Rattle.os2_answers.specs.Asking.{ask}
use Rattle.os2_answers.specs.Examples.{with, first}
use Rattle.worked_examples.specs.Rows.{every_level}

-- a table of each version from 0 to 4 with bits 2 and 3 of fsType
abbrev pub tables : List (List ℕ)
tables = map (λ w. with 0 w (with 4 0x000c (first 96))) (0 ∷ 1 ∷ 2 ∷ 3 ∷ 4 ∷ [])

-- rule 4, and bit 3's rights
abbrev pub rule_four : {A : Type 0} → Outcome A
rule_four = refused 3 (some 4)

abbrev pub editable : Outcome Said
editable = answered (value (rights 3))

-- at levels 0 to 5: accepted in versions 0 to 2, refused in 3 and 4 from the level of the version on
abbrev pub Checks : Type 0
Checks =
    map (λ t. map (λ L. checked L t) every_level) tables
    ≡ replicate 6 accepted
    ∷ replicate 6 accepted
    ∷ replicate 6 accepted
    ∷ (replicate 3 accepted ++ replicate 3 rule_four)
    ∷ (replicate 4 accepted ++ replicate 2 rule_four)
    ∷ []

-- and its rights: not known below the version's level, then editable in versions 0 to 2
abbrev pub RightsAnswers : Type 0
RightsAnswers =
    map (λ t. map (λ L. ask L t Rights) every_level) tables
    ≡ replicate 6 editable
    ∷ (replicate 1 (answered not_known) ++ replicate 5 editable)
    ∷ (replicate 2 (answered not_known) ++ replicate 4 editable)
    ∷ (replicate 3 (answered not_known) ++ replicate 3 rule_four)
    ∷ (replicate 4 (answered not_known) ++ replicate 2 rule_four)
    ∷ []

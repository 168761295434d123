-- The answers of the code, a value, absent and not known, each in its words: by computing.
-- Assumes nothing.
use mathlib.Core.Path.{◌≡◌, refl}
use mathlib.Core.List.{[], ◌∷◌, map}
use lib.IntN.{pos, negsuc}
use lib.Ieee.{Float}
use Rattle.os2_style.specs.declared.EmbeddingRights.TheVariants.{Editable}
use Rattle.os2_style.specs.declared.OpticalSizes.TheVariants.{Between}
use Rattle.os2_style.specs.Style.{between}
use Rattle.os2_answers.specs.declared.Answer.TheVariants as Answer·
use Rattle.os2_answers.specs.Values.{integer, rights, position, sizes, value, absent, not_known}
use Rattle.os2_answers.specs.Replies.{said_answer, said_rights_answer, said_style_answer, said_optical_answer}

pub answers : map said_answer (Answer·.Value (pos 400) ∷ Answer·.Value (negsuc 4) ∷ Answer·.Absent ∷ Answer·.NotKnown ∷ [])
    ≡ value (integer (pos 400)) ∷ value (integer (negsuc 4)) ∷ absent ∷ not_known ∷ []
answers = refl

pub rights_answers : map said_rights_answer (Answer·.Value Editable ∷ Answer·.Absent ∷ Answer·.NotKnown ∷ [])
    ≡ value (rights 3) ∷ absent ∷ not_known ∷ []
rights_answers = refl

module _ (a b : Float) where
  pub style_answers : map said_style_answer (Answer·.Value (record { weight = a; width = b }) ∷ Answer·.Absent ∷ Answer·.NotKnown ∷ [])
      ≡ value (position a b) ∷ absent ∷ not_known ∷ []
  style_answers = refl

  pub optical_answers : map said_optical_answer (Answer·.Value (Between a b) ∷ Answer·.Absent ∷ Answer·.NotKnown ∷ [])
      ≡ value (sizes (between a b)) ∷ absent ∷ not_known ∷ []
  optical_answers = refl

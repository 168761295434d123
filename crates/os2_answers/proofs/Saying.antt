-- The words settle the answer: each `said` definition has an inverse.
-- Assumes nothing.
use Prim.Native.Nat.{ℕ}
use mathlib.Core.Path.{◌≡◌, refl}
use mathlib.Core.Bool.{cond}
use lib.Dec.{eqb}
use lib.IntN.{ℤ}
use lib.Ieee.{Float}
use Rattle.os2_style.specs.declared.EmbeddingRights.{EmbeddingRights}
use Rattle.os2_style.specs.declared.EmbeddingRights.TheVariants.{Installable, Restricted, Preview, Editable}
use Rattle.os2_style.specs.declared.OpticalSizes.{OpticalSizes}
use Rattle.os2_style.specs.declared.OpticalSizes.TheVariants.{Every, Upwards, Between}
use Rattle.os2_style.specs.Style.{Sizes, every, upwards, between}
use Rattle.os2_style.specs.declared.StylePosition.{StylePosition}
use Rattle.os2_answers.specs.declared.Answer.{Answer}
use Rattle.os2_answers.specs.declared.Answer.TheVariants as Answer·
use Rattle.os2_answers.specs.Values.{Value, integer, rights, position, sizes, Said, value, absent, not_known}
use Rattle.os2_answers.specs.Replies.{said_answer, said_rights_answer, said_style_answer, said_optical_answer}

-- an answer by its case, and a value by its kind
abbrev heard : {A : Type 0} → (Value → A) → A → A → Said → A
heard v a n (value x) = v x
heard v a n absent = a
heard v a n not_known = n

abbrev kind : {A : Type 0} → (ℤ → A) → (ℕ → A) → (Float → Float → A) → (Sizes → A) → Value → A
kind i r p s (integer x) = i x
kind i r p s (rights k) = r k
kind i r p s (position a b) = p a b
kind i r p s (sizes x) = s x

-- ---- a field or a bit

abbrev pub answer_of : Said → Answer ℤ
answer_of = heard (kind Answer·.Value (λ k. Answer·.NotKnown) (λ a b. Answer·.NotKnown) (λ s. Answer·.NotKnown)) Answer·.Absent Answer·.NotKnown

pub answer_back : (a : Answer ℤ) → answer_of (said_answer a) ≡ a
answer_back (Answer·.Value x) = refl
answer_back Answer·.Absent = refl
answer_back Answer·.NotKnown = refl

-- ---- rights

abbrev rights_in : ℕ → EmbeddingRights
rights_in k = cond (eqb k 0) Installable (cond (eqb k 1) Restricted (cond (eqb k 2) Preview Editable))

abbrev pub rights_of : Said → Answer EmbeddingRights
rights_of =
    heard (kind (λ x. Answer·.NotKnown) (λ k. Answer·.Value (rights_in k)) (λ a b. Answer·.NotKnown) (λ s. Answer·.NotKnown))
    Answer·.Absent Answer·.NotKnown

pub rights_back : (a : Answer EmbeddingRights) → rights_of (said_rights_answer a) ≡ a
rights_back (Answer·.Value Installable) = refl
rights_back (Answer·.Value Restricted) = refl
rights_back (Answer·.Value Preview) = refl
rights_back (Answer·.Value Editable) = refl
rights_back Answer·.Absent = refl
rights_back Answer·.NotKnown = refl

-- ---- the style position

abbrev pub style_of : Said → Answer StylePosition
style_of =
    heard (kind (λ x. Answer·.NotKnown) (λ k. Answer·.NotKnown) (λ a b. Answer·.Value (record { weight = a; width = b })) (λ s. Answer·.NotKnown))
    Answer·.Absent Answer·.NotKnown

pub style_back : (a : Answer StylePosition) → style_of (said_style_answer a) ≡ a
style_back (Answer·.Value p) = refl
style_back Answer·.Absent = refl
style_back Answer·.NotKnown = refl

-- ---- optical sizes

abbrev sizes_in : Sizes → OpticalSizes
sizes_in every = Every
sizes_in (upwards a) = Upwards a
sizes_in (between a b) = Between a b

abbrev pub optical_of : Said → Answer OpticalSizes
optical_of =
    heard (kind (λ x. Answer·.NotKnown) (λ k. Answer·.NotKnown) (λ a b. Answer·.NotKnown) (λ s. Answer·.Value (sizes_in s)))
    Answer·.Absent Answer·.NotKnown

pub optical_back : (a : Answer OpticalSizes) → optical_of (said_optical_answer a) ≡ a
optical_back (Answer·.Value Every) = refl
optical_back (Answer·.Value (Upwards a)) = refl
optical_back (Answer·.Value (Between a b)) = refl
optical_back Answer·.Absent = refl
optical_back Answer·.NotKnown = refl

-- The words of an answer on an 'OS/2' table, and of the writer's, written out as include/gyalvindor.h has them, member by member: by computing.
-- Assumes nothing.
use Prim.Native.Nat.{ℕ}
use mathlib.Core.Path.{◌≡◌, refl}
use mathlib.Core.Option.{Option}
use mathlib.Core.List.{[], ◌∷◌, map}
use lib.IntN.{ℤ, pos}
use lib.Ieee.{Float, binary32, of_bits}
use Rattle.outcomes.specs.Outcomes.{refused, answered}
use Rattle.os2_style.specs.Style.{rights_number, every, upwards, between}
use Rattle.os2_style.specs.declared.EmbeddingRights.TheVariants.{Installable, Restricted, Preview, Editable}
use Rattle.os2_answers.specs.Values.{integer, rights, position, sizes, value, absent, not_known}
use Rattle.refusal_words.specs.declared.GvRefusal.{GvRefusal}
use Rattle.refusal_words.specs.Words.{refusal_words, outcome_refusal}
use Rattle.refusal_words.proofs.Cases.{ok}
use Rattle.os2_words.specs.declared.GvNumber.{GvNumber}
use Rattle.os2_words.specs.declared.GvRights.{GvRights}
use Rattle.os2_words.specs.declared.GvStyle.{GvStyle}
use Rattle.os2_words.specs.declared.GvOptical.{GvOptical}
use Rattle.os2_words.specs.declared.GvWritten.{GvWritten}
use Rattle.os2_words.specs.Words.{members_of, number_words, rights_words, style_words, optical_words, written_words}

-- ---- the structs, their members in the header's order

abbrev number : GvRefusal → (kind : ℕ) → ℤ → GvNumber
number r k x = record { refusal = r; kind = k; value = x }

abbrev allowed : GvRefusal → (kind rights : ℕ) → GvRights
allowed r k x = record { refusal = r; kind = k; rights = x }

abbrev style : GvRefusal → (kind : ℕ) → (weight width : Float) → GvStyle
style r k w p = record { refusal = r; kind = k; weight = w; width = p }

abbrev optical : GvRefusal → (kind sizes : ℕ) → (lower upper : Float) → GvOptical
optical r k s l u = record { refusal = r; kind = k; sizes = s; lower = l; upper = u }

abbrev size : GvRefusal → ℕ → GvWritten
size r n = record { refusal = r; size = n }

-- 0.0
abbrev nought : Float
nought = of_bits binary32 0

-- ---- "Where it is refused, all members after the refusal are 0, in every answer": for every refusal

pub record Zeros (n : ℕ) (c : Option ℕ) : Type 0 where
  pub of_number : number_words (refused n c) ≡ number (refusal_words n c) 0 (pos 0)
  pub of_rights : rights_words (refused n c) ≡ allowed (refusal_words n c) 0 0
  pub of_style : style_words (refused n c) ≡ style (refusal_words n c) 0 nought nought
  pub of_sizes : optical_words (refused n c) ≡ optical (refusal_words n c) 0 0 nought nought
  pub of_written : written_words (refused n c) ≡ size (refusal_words n c) 0

pub zeros : (n : ℕ) (c : Option ℕ) → Zeros n c
unfolding outcome_refusal members_of number_words rights_words style_words optical_words written_words
zeros n c = record { of_number = refl; of_rights = refl; of_style = refl; of_sizes = refl; of_written = refl }

-- ---- answers on 'OS/2' tables: 1 a value, 2 absent, 3 not known; where there is no value, the members after `kind` are 0

pub numbers : (x : ℤ) → map number_words (answered (value (integer x)) ∷ answered absent ∷ answered not_known ∷ []) ≡ number ok 1 x ∷ number ok 2 (pos 0) ∷ number ok 3 (pos 0) ∷ []
unfolding outcome_refusal members_of number_words
numbers x = refl

-- GV_INSTALLABLE, GV_RESTRICTED, GV_PREVIEW, GV_EDITABLE
pub rights_values :
    map (λ k. rights_words (answered (value (rights (rights_number k))))) (Installable ∷ Restricted ∷ Preview ∷ Editable ∷ [])
    ≡ allowed ok 1 0 ∷ allowed ok 1 1 ∷ allowed ok 1 2 ∷ allowed ok 1 3 ∷ []
unfolding outcome_refusal members_of rights_words
rights_values = refl

pub no_rights : map rights_words (answered absent ∷ answered not_known ∷ []) ≡ allowed ok 2 0 ∷ allowed ok 3 0 ∷ []
unfolding outcome_refusal members_of rights_words
no_rights = refl

pub styles : (w p : Float) →
    map style_words (answered (value (position w p)) ∷ answered absent ∷ answered not_known ∷ [])
    ≡ style ok 1 w p ∷ style ok 2 nought nought ∷ style ok 3 nought nought ∷ []
unfolding outcome_refusal members_of style_words
styles w p = refl

-- GV_EVERY, GV_UPWARDS, GV_BETWEEN; GV_NO_SIZES where there is no value
pub sizes_values : (l u : Float) →
    map (λ s. optical_words (answered (value (sizes s)))) (every ∷ upwards l ∷ between l u ∷ [])
    ≡ optical ok 1 1 nought nought ∷ optical ok 1 2 l nought ∷ optical ok 1 3 l u ∷ []
unfolding outcome_refusal members_of optical_words
sizes_values l u = refl

pub no_sizes : map optical_words (answered absent ∷ answered not_known ∷ []) ≡ optical ok 2 0 nought nought ∷ optical ok 3 0 nought nought ∷ []
unfolding outcome_refusal members_of optical_words
no_sizes = refl

-- ---- what the writer wrote

pub bytes_written : (n : ℕ) → written_words (answered n) ≡ size ok n
unfolding written_words
bytes_written n = refl

-- What document 01 settles of a question, in propositions: which refusal or which answer it has.
use Rattle.std.specs.Prelude.{ℕ, ◌+◌, ◌/◌, ◌%◌, ◌<◌, ◌≤◌, List, pos}
use Rattle.std.proofs.Math.Option.{none, some}
use Rattle.outcomes.specs.Outcomes.{Outcome, refused, answered}
use Rattle.level.specs.Levels.{newest}
use Rattle.os2_rules.specs.Bits.{bit}
use Rattle.os2_fields.specs.Catalogue.{field_of}
use Rattle.os2_fields.specs.Fields.{raw, version}
use Rattle.os2_style.specs.Style.{Sizes, float, percent_of}
use Rattle.os2_style.specs.Settled.{RightsAre, SizesAre}
use Rattle.os2_acceptance.specs.Settled.{Short, BreaksFirst, Accepted}
use Rattle.os2_questions.specs.declared.Question.{Question}
use Rattle.os2_questions.specs.declared.Question.TheVariants.{Field, SelectionBit, UnicodeBit, CodePageBit, Rights, StylePosition, OpticalSizes}
use Rattle.os2_questions.specs.Settled.{OwnRefusal, CameIn, Later}
use Rattle.os2_answers.specs.Values.{Value, integer, rights, position, sizes, Said, value, absent, not_known, field_value}

-- ---- the values

-- the value that a table has for a question. "Unicode bit n (0 to 127) is bit n mod 32, counted from the low end, of range n div 32";
-- the ranges are fields 26 to 29, the code pages 39 and 40
pub data Says (b : List ℕ) : Question → Value → Type 0 where
  field_says : {k : ℕ} → Says b (Field k) (integer (field_value b (field_of k)))
  selection_says : {n : ℕ} → Says b (SelectionBit n) (integer (pos (bit n (raw b 31))))
  unicode_says : {n : ℕ} → Says b (UnicodeBit n) (integer (pos (bit (n % 32) (raw b (26 + n / 32)))))
  code_page_says : {n : ℕ} → Says b (CodePageBit n) (integer (pos (bit (n % 32) (raw b (39 + n / 32)))))
  rights_say : {k : ℕ} → RightsAre (raw b 4) k → Says b Rights (rights k)
  style_says : Says b StylePosition (position (float (raw b 2)) (percent_of (raw b 3)))
  optical_says : {s : Sizes} → SizesAre (raw b 46) (raw b 47) s → Says b OpticalSizes (sizes s)

-- ---- the answer: "a question's own number (6, 7) comes after 1 and before 2; then 2, 3; the answer last"

pub data Settled (L : ℕ) (b : List ℕ) (q : Question) : Outcome Said → Type 0 where
  level_above : newest < L → Settled L b q (refused 1 none)
  own_number : {n : ℕ} → L ≤ newest → OwnRefusal q n → Settled L b q (refused n none)
  too_short : {p : ℕ} → L ≤ newest → CameIn q p → Short L b → Settled L b q (refused 2 none)
  rule_broken : {p k : ℕ} → L ≤ newest → CameIn q p → (Short L b → ⊥) → BreaksFirst L b k → Settled L b q (refused 3 (some k))
  is_not_known : {p : ℕ} → L ≤ newest → CameIn q p → Accepted L b → Later L b q → Settled L b q (answered not_known)
  is_absent : {p : ℕ} → L ≤ newest → CameIn q p → Accepted L b → (Later L b q → ⊥) → version b < p → Settled L b q (answered absent)
  is_value : {p : ℕ} {v : Value} → L ≤ newest → CameIn q p → Accepted L b → (Later L b q → ⊥) → p ≤ version b → Says b q v → Settled L b q (answered (value v))

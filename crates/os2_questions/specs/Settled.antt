-- What document 01 settles of a question before any value is read, in propositions: its number, what came in when, and what a level does not know.
use Rattle.std.specs.Prelude.{ℕ, ◌<◌, ◌≤◌, List}
use Rattle.os2_fields.specs.Catalogue.{field_of}
use Rattle.os2_fields.specs.Fields.{version}
use Rattle.os2_questions.specs.declared.Question.{Question}
use Rattle.os2_questions.specs.declared.Question.TheVariants.{Field, SelectionBit, UnicodeBit, CodePageBit, Rights, StylePosition, OpticalSizes}

-- the refusal of a question's own number
pub data OwnRefusal : Question → ℕ → Type 0 where
  no_field : {k : ℕ} → 47 < k → OwnRefusal (Field k) 6
  no_selection_bit : {n : ℕ} → 9 < n → OwnRefusal (SelectionBit n) 7
  no_unicode_bit : {n : ℕ} → 127 < n → OwnRefusal (UnicodeBit n) 7
  no_code_page_bit : {n : ℕ} → 63 < n → OwnRefusal (CodePageBit n) 7

-- the version that what a question concerns came in with; a number that gives 6 or 7 concerns nothing that came in
pub data CameIn : Question → ℕ → Type 0 where
  field_came : {k : ℕ} → k ≤ 47 → CameIn (Field k) (field_of k).since
  selection_came : {n : ℕ} → n ≤ 6 → CameIn (SelectionBit n) 0
  selection_came_later : {n : ℕ} → 7 ≤ n → n ≤ 9 → CameIn (SelectionBit n) 4
  unicode_came : {n : ℕ} → n ≤ 127 → CameIn (UnicodeBit n) 0
  code_page_came : {n : ℕ} → n ≤ 63 → CameIn (CodePageBit n) 1
  rights_came : CameIn Rights 0
  style_came : CameIn StylePosition 0
  optical_came : CameIn OpticalSizes 5

-- the three questions that are not known, too, when w is above L
pub data OnWhole : Question → Type 0 where
  rights_whole : OnWhole Rights
  style_whole : OnWhole StylePosition
  optical_whole : OnWhole OpticalSizes

-- "the question concerns something that came in after its level, or, for rights, style position and optical sizes, also when the table's version
-- is above its level"
pub data Later (L : ℕ) (b : List ℕ) (q : Question) : Type 0 where
  after : {p : ℕ} → CameIn q p → L < p → Later L b q
  newer : OnWhole q → L < version b → Later L b q

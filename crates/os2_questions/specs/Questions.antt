-- The seven questions: the refusal of a question's own number, and the version that what it asks for came in with.
use Rattle.std.specs.Prelude.{ℕ, Bool, true, false, cond, ltb}
use Rattle.std.proofs.Math.Option.{Option, none}
use Rattle.outcomes.specs.Firsts.{when}
use Rattle.outcomes.specs.Outcomes.{Refusal, bare}
use Rattle.os2_fields.specs.Catalogue.{field_of}
use Rattle.os2_questions.specs.declared.Question.{Question}
use Rattle.os2_questions.specs.declared.Question.TheVariants.{Field, SelectionBit, UnicodeBit, CodePageBit, Rights, StylePosition, OpticalSizes}

-- 6: "field number above 47"; 7: "bit number out of its range"
unfoldable pub own_refusal : Question → Option Refusal
own_refusal (Field k) = when (ltb 47 k) (bare 6)
own_refusal (SelectionBit n) = when (ltb 9 n) (bare 7)
own_refusal (UnicodeBit n) = when (ltb 127 n) (bare 7)
own_refusal (CodePageBit n) = when (ltb 63 n) (bare 7)
own_refusal Rights = none
own_refusal StylePosition = none
own_refusal OpticalSizes = none

-- the version that it came in with, for a number in its range
unfoldable pub since : Question → ℕ
since (Field k) = (field_of k).since
since (SelectionBit n) = cond (ltb n 7) 0 4
since (UnicodeBit n) = 0
since (CodePageBit n) = 1
since Rights = 0
since StylePosition = 0
since OpticalSizes = 5

-- "Three more are not known when w is above L"
unfoldable pub on_whole : Question → Bool
on_whole (Field k) = false
on_whole (SelectionBit n) = false
on_whole (UnicodeBit n) = false
on_whole (CodePageBit n) = false
on_whole Rights = true
on_whole StylePosition = true
on_whole OpticalSizes = true

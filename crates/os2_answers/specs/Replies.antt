-- The code's answers in document 01's words and numbers, case by case.
use Rattle.std.specs.Prelude.{ℤ}
use Rattle.os2_style.specs.Style.{rights_number, said_sizes}
use Rattle.os2_style.specs.declared.EmbeddingRights.{EmbeddingRights}
use Rattle.os2_style.specs.declared.StylePosition.{StylePosition}
use Rattle.os2_style.specs.declared.OpticalSizes.{OpticalSizes}
use Rattle.os2_answers.specs.declared.Answer.{Answer}
use Rattle.os2_answers.specs.declared.Answer.TheVariants as Answer·
use Rattle.os2_answers.specs.Values.{Value, integer, rights, position, sizes, Said, value, absent, not_known}

-- an answer, by what its value stands for
abbrev pub said_by : {T : Type 0} → (T → Value) → Answer T → Said
said_by f (Answer·.Value x) = value (f x)
said_by f Answer·.Absent = absent
said_by f Answer·.NotKnown = not_known

-- on a field or a bit
abbrev pub said_answer : Answer ℤ → Said
said_answer a = said_by integer a

-- on rights: the bit of fsType, 0 for none
abbrev pub said_rights_answer : Answer EmbeddingRights → Said
said_rights_answer a = said_by (λ x. rights (rights_number x)) a

-- on the style position
abbrev pub said_style_answer : Answer StylePosition → Said
said_style_answer a = said_by (λ x. position x.weight x.width) a

-- on optical sizes
abbrev pub said_optical_answer : Answer OpticalSizes → Said
said_optical_answer a = said_by (λ x. sizes (said_sizes x)) a

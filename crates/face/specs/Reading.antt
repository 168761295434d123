-- The face that a font's two tables give at a level, from what the readers answer. Document 02, Ask 7: "A slot holds a family text (the record (3,1,0x409,16), or ID 1 under the same other
-- numbers if 16 isn't there), weight, width class, and whether fsSelection bit 0 is set."
use Rattle.std.specs.Prelude.{ℕ, Bool, cond, ◌||◌, List, ltb, eqb, ℤ, pos, negsuc, take, drop}
use Rattle.std.proofs.Math.Option.{Option, none, some}
use Rattle.outcomes.specs.Firsts.{when, ◌then◌}
use Rattle.outcomes.specs.Outcomes.{Refusal, bare, Outcome, refused, answered, unless}
use Rattle.choice.specs.Faces.{Face}
use Rattle.os2_questions.specs.declared.Question.TheVariants.{Field, SelectionBit}
use Rattle.os2_answers.specs.Values.{Value, integer, rights, position, sizes, Said, value, absent, not_known}
use Rattle.os2_answers.specs.Asking.{ask}
use Rattle.name_layout.specs.Keys.{Key, key_from}
use Rattle.name_search.specs.declared.Text.{Text}
use Rattle.name_lookup.specs.Answers.{lookup_of}

-- ---- 'OS/2'

-- the number that is answered, where one is
abbrev pub whole_of : ℤ → ℕ
whole_of (pos n) = n
whole_of (negsuc n) = 0

abbrev pub integer_in : Value → ℕ
integer_in (integer x) = whole_of x
integer_in (rights k) = 0
integer_in (position a b) = 0
integer_in (sizes s) = 0

abbrev pub said_number : Said → ℕ
said_number (value v) = integer_in v
said_number absent = 0
said_number not_known = 0

abbrev pub number_in : Outcome Said → ℕ
number_in (answered s) = said_number s
number_in (refused n c) = 0

-- the refusal, where there is one
abbrev pub refusal_in : {A : Type 0} → Outcome A → Option Refusal
refusal_in (refused n c) = some (record { number = n; carried = c })
refusal_in (answered a) = none

-- 52: "table newer than the level"
unfoldable pub newer : ℕ → List ℕ → Bool
newer L b = ltb L (number_in (ask L b (Field 0)))

-- "the OS/2 refusal, 52"
unfoldable pub os2_fault : ℕ → List ℕ → Option Refusal
os2_fault L b = refusal_in (ask L b (Field 0)) then when (newer L b) (bare 52)

-- weight is field 2, width class field 3
unfoldable pub face_of : ℕ → List ℕ → List ℕ → Face
face_of L b text =
    record { family = text; weight = number_in (ask L b (Field 2)); width = number_in (ask L b (Field 3)); sloped = eqb (number_in (ask L b (SelectionBit 0))) 1 }

-- ---- 'name'

-- "(3,1,0x409,16), or ID 1 under the same other numbers"
abbrev pub family_key : ℕ → Key
family_key n = key_from 3 1 0x409 n

-- what is looked up, or where it isn't there something else
unfoldable pub or_else : Outcome Text → Outcome Text → Outcome Text
or_else (answered x) other = answered x
or_else (refused n c) other = cond (eqb n 20) other (refused n c)

-- "the 'name' refusal, 20 no family record", or else where the family's text stands
unfoldable pub family_of : List ℕ → Outcome Text
family_of n = or_else (lookup_of n (family_key 16)) (lookup_of n (family_key 1))

-- the bytes of a text
abbrev pub bytes_at : List ℕ → Text → List ℕ
bytes_at n x = take x.len (drop x.start n)

-- 51: "family empty or over 64 bytes"
unfoldable pub unfit : ℕ → Bool
unfit len = eqb len 0 || ltb 64 len

-- ---- both

-- the face of the text that was found
unfoldable pub named : ℕ → List ℕ → List ℕ → Outcome Text → Outcome Face
named L b n (refused k c) = refused k c
named L b n (answered x) = unless (when (unfit x.len) (bare 51)) (answered (face_of L b (bytes_at n x)))

-- "the OS/2 refusal, 52 table newer than the level, the 'name' refusal, 20 no family record, 51 family empty or over 64 bytes", or else the face
unfoldable pub face_in : ℕ → List ℕ → List ℕ → Outcome Face
face_in L b n = unless (os2_fault L b) (named L b n (family_of n))

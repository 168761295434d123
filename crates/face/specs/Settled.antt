-- What document 02, Ask 7, settles of the face that two tables give at a level, in propositions on their bytes, over any implementation.
use Rattle.std.specs.Prelude.{ℕ, ◌<◌, ◌≤◌, ◌≡◌, ◌⊎◌, Bool, true, false, List, pos, length}
use Rattle.std.proofs.Math.Option.{Option, none}
use Rattle.bigendian.specs.Numbers.{Bytes}
use Rattle.outcomes.specs.Outcomes.{Refusal, Outcome, refused, answered, refusing}
use Rattle.choice.specs.Faces.{Face}
use Rattle.level.specs.Levels.{newest}
use Rattle.os2_fields.specs.Fields.{version}
use Rattle.os2_acceptance.specs.Settled.{Accepted, CheckSettled}
use Rattle.os2_questions.specs.declared.Question.TheVariants.{Field, SelectionBit}
use Rattle.os2_answers.specs.Values.{integer}
use Rattle.os2_answers.specs.Settled.{Says}
use Rattle.name_layout.specs.Layout.{bytes_of}
use Rattle.name_layout.specs.Keys.{Key, key_from}
use Rattle.name.specs.Acceptable.{Acceptable}
use Rattle.name.specs.Refusing.{Refused}
use Rattle.name_search.specs.Searches.{HasKey}

-- the level accepts the table, which is not newer than it
pub record Known (L : ℕ) (b : List ℕ) : Type 0 where
  pub level : L ≤ newest
  pub accepted : Accepted L b
  pub not_newer : version b ≤ L

-- no record has the key
abbrev pub Lacks : List ℕ → Key → Type 0
Lacks n k = (i : ℕ) → HasKey n k i → ⊥

-- the family's text: "the record (3,1,0x409,16), or ID 1 under the same other numbers if 16 isn't there"
pub data Family (n : List ℕ) : List ℕ → Type 0 where
  of_16 : {i : ℕ} → HasKey n (key_from 3 1 0x409 16) i → Family n (bytes_of n i)
  of_1 : {i : ℕ} → Lacks n (key_from 3 1 0x409 16) → HasKey n (key_from 3 1 0x409 1) i → Family n (bytes_of n i)

-- 51's condition
abbrev pub Unfit : List ℕ → Type 0
Unfit text = (length text ≡ 0) ⊎ (64 < length text)

abbrev pub bit_of : Bool → ℕ
bit_of true = 1
bit_of false = 0

-- "weight, width class, and whether fsSelection bit 0 is set"
pub record Style (b : List ℕ) (f : Face) : Type 0 where
  pub weight : Says b (Field 2) (integer (pos f.weight))
  pub width : Says b (Field 3) (integer (pos f.width))
  pub slope : Says b (SelectionBit 0) (integer (pos (bit_of f.sloped)))

-- "the OS/2 refusal, 52 table newer than the level, the 'name' refusal, 20 no family record, 51 family empty or over 64 bytes", and the face last; a number above 5 is no level, which is 1
pub data FaceSettled (L : ℕ) (b n : List ℕ) : Outcome Face → Type 0 where
  os2_refused : {k : ℕ} {c : Option ℕ} → CheckSettled L b (refused k c) → FaceSettled L b n (refused k c)
  newer_table : L ≤ newest → Accepted L b → L < version b → FaceSettled L b n (refused 52 none)
  name_refused : {r : Refusal} → Known L b → Refused n r → FaceSettled L b n (refusing r)
  no_family : Known L b → Acceptable n → Lacks n (key_from 3 1 0x409 16) → Lacks n (key_from 3 1 0x409 1) → FaceSettled L b n (refused 20 none)
  family_unfit : {text : List ℕ} → Known L b → Acceptable n → Family n text → Unfit text → FaceSettled L b n (refused 51 none)
  is_face : {f : Face} → Known L b → Acceptable n → Family n f.family → (Unfit f.family → ⊥) → Style b f → FaceSettled L b n (answered f)

-- of any reader of faces
abbrev pub FacesSettled : (ℕ → List ℕ → List ℕ → Outcome Face) → Type 0
FacesSettled read = (L : ℕ) (b n : List ℕ) → Bytes n → FaceSettled L b n (read L b n)

-- Document 01, "Examples to check against": its starred rows, in its order, as one table.
use Rattle.std.specs.Prelude.{ℕ, Bool, true, false, List, [], ◌∷◌, map, pos, replicate}
use Prim.Native.String.{String}
use Rattle.std.proofs.Math.Option.{none, some}
use Rattle.characters.specs.Texts.{codes}
use Rattle.outcomes.specs.Outcomes.{Outcome, refused, answered, accepted}
use Rattle.name_layout.specs.Keys.{Key}
use Rattle.name.specs.Acceptance.{check_of}
use Rattle.name_search.specs.declared.Text.{Text}
use Rattle.name_lookup.specs.Answers.{lookup_of}
use Rattle.os2_acceptance.specs.Acceptance.{checked}
use Rattle.os2_questions.specs.declared.Question.TheVariants.{SelectionBit}
use Rattle.os2_answers.specs.Values.{Said, value, not_known, integer}
use Rattle.os2_answers.specs.Asking.{ask}
use Rattle.os2_answers.specs.Examples.{with, first}
use Rattle.version_text.specs.Versions.{Figures, version_in}
use Rattle.version_text.specs.Examples.{doubled}

-- what is read: an 'OS/2' table at a level; bit n of its fsSelection; a 'name' table; any key, looked up in it; a version text of one byte a
-- character, or of two
pub data Asked : Type 0 where
  os2 : List ℕ → ℕ → Asked
  selection_bit : ℕ → List ℕ → ℕ → Asked
  name : List ℕ → Asked
  any_lookup : List ℕ → Asked
  version : Bool → String → Asked

-- what is found of each
pub data Found : Type 0 where
  check_is : Outcome (Unit {0}) → Found
  bit_is : Outcome Said → Found
  string_is : Outcome Text → Found
  version_is : Outcome Figures → Found

-- a row: its number, what is read, and what document 01 says of each
pub record Row : Type 0 where
  pub row : ℕ
  pub asked : List Asked
  pub says : List Found

abbrev pub every_level : List ℕ
every_level = 0 ∷ 1 ∷ 2 ∷ 3 ∷ 4 ∷ 5 ∷ []

abbrev pub narrow_and_wide : String → List Asked
narrow_and_wide t = version false t ∷ version true t ∷ []

abbrev pub figures : ℕ → ℕ → Outcome Figures
figures a b = answered (record { major = a; minor = b })

abbrev pub rows : List Row
rows =
    -- "OS/2, 78 zero bytes but weight 400, width 5: accepted at every level."
    record { row = 1; asked = map (os2 (first 78)) every_level; says = replicate 6 (check_is accepted) } ∷
    -- "The same, 77 bytes: 2 at every level."
    record { row = 2; asked = map (os2 (first 77)) every_level; says = replicate 6 (check_is (refused 2 none)) } ∷
    -- "That table with version 5 and 18 zero bytes added, 96 in all: accepted at level 4, 2 at level 5."
    record { row = 3; asked = map (os2 (with 0 5 (first 96))) (4 ∷ 5 ∷ []); says = check_is accepted ∷ check_is (refused 2 none) ∷ [] } ∷
    -- "Version 4, fsSelection 0x0080: bit 7 set at level 5, not known at level 3."
    record {
      row = 4;
      asked = map (selection_bit 7 (with 0 4 (with 31 0x0080 (first 96)))) (5 ∷ 3 ∷ []);
      says = bit_is (answered (value (integer (pos 1)))) ∷ bit_is (answered not_known) ∷ [];
    } ∷
    -- "Version 3, fsSelection 0x0080: 3 (rule 5) at level 3, accepted at level 2."
    record { row = 5; asked = map (os2 (with 0 3 (with 31 0x0080 (first 96)))) (3 ∷ 2 ∷ []); says = check_is (refused 3 (some 5)) ∷ check_is accepted ∷ [] } ∷
    -- "fsSelection 0x0041, version 4, level 4: 3 (rule 6)."
    record { row = 6; asked = os2 (with 0 4 (with 31 0x0041 (first 96))) 4 ∷ []; says = check_is (refused 3 (some 6)) ∷ [] } ∷
    -- "fsType 0x000C, version 4, level 5: 3 (rule 4)."
    record { row = 7; asked = os2 (with 0 4 (with 4 0x000c (first 96))) 5 ∷ []; says = check_is (refused 3 (some 4)) ∷ [] } ∷
    -- "'name' bytes 00 00 00 00 00 06: accepted, any lookup 20."
    record {
      row = 8;
      asked = name (0 ∷ 0 ∷ 0 ∷ 0 ∷ 0 ∷ 6 ∷ []) ∷ any_lookup (0 ∷ 0 ∷ 0 ∷ 0 ∷ 0 ∷ 6 ∷ []) ∷ [];
      says = check_is accepted ∷ string_is (refused 20 none) ∷ [];
    } ∷
    -- "Version text `Version 1.70000 2.5`: 2 and 5."
    record { row = 9; asked = narrow_and_wide "Version 1.70000 2.5"; says = replicate 2 (version_is (figures 2 5)) } ∷
    -- "`Version 65535.1`: 25."
    record { row = 10; asked = narrow_and_wide "Version 65535.1"; says = replicate 2 (version_is (refused 25 none)) } ∷
    -- "`Version 65534.1`: 65534 and 1."
    record { row = 11; asked = narrow_and_wide "Version 65534.1"; says = replicate 2 (version_is (figures 65534 1)) } ∷
    []

-- the bytes of a text, one a character or two
abbrev pub bytes : Bool → String → List ℕ
bytes false t = codes t
bytes true t = doubled (codes t)

-- what the definitions give; any lookup is of the key k
abbrev pub gives : Key → Asked → Found
gives k (os2 t L) = check_is (checked L t)
gives k (selection_bit n t L) = bit_is (ask L t (SelectionBit n))
gives k (name t) = check_is (check_of t)
gives k (any_lookup t) = string_is (lookup_of t k)
gives k (version wide t) = version_is (version_in wide (bytes wide t))

-- what the definitions give of a row, and what document 01 says
abbrev pub found : Key → Row → List Found
found k r = map (gives k) r.asked

abbrev pub said : Row → List Found
said r = r.says

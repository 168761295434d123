-- Document 02, Ask 7, on whole tables: the face that two tables give, and the refusals of a load, alone and two at once, in their order.
use Rattle.std.specs.Prelude.{ℕ, ◌≡◌, true, false, cond, List, [], ◌∷◌, ◌++◌, map, eqb, ltb, replicate}
use Rattle.std.proofs.Math.Option.{Option, none, some}
use Rattle.outcomes.specs.Outcomes.{Outcome, refused, answered, accepted}
use Rattle.choice.specs.Faces.{Face, Slots}
use Rattle.os2_answers.specs.Examples.{with, first}
use Rattle.face.specs.Reading.{face_in}
use Rattle.chooser.specs.Calls.{load_of, unload_of, after_load, after_unload}
use Rattle.worked_examples.specs.Records.{words}

-- ---- tables

-- 'OS/2' of version 0: weight 700, width class 7, fsSelection bit 0 set
abbrev pub sloped : List ℕ
sloped = with 31 0x0001 (with 3 7 (with 2 700 (first 78)))

-- 'name' of ID 1 and ID 16, with texts of these lengths from these places of the bytes 70, 71, .., 74 on; and of one record with any key
abbrev pub two : ℕ → ℕ → ℕ → ℕ → List ℕ
two l o m p = words (0 ∷ 2 ∷ 30 ∷ 3 ∷ 1 ∷ 0x409 ∷ 1 ∷ l ∷ o ∷ 3 ∷ 1 ∷ 0x409 ∷ 16 ∷ m ∷ p ∷ []) ++ 70 ∷ 71 ∷ 72 ∷ 73 ∷ 74 ∷ []

abbrev pub one : ℕ → ℕ → ℕ → ℕ → ℕ → ℕ → List ℕ → List ℕ
one p e l n length offset storage = words (0 ∷ 1 ∷ 18 ∷ p ∷ e ∷ l ∷ n ∷ length ∷ offset ∷ []) ++ storage

abbrev pub five : List ℕ
five = 70 ∷ 71 ∷ 72 ∷ 73 ∷ 74 ∷ []

abbrev pub face : List ℕ → Outcome Face
face family = answered (record { family = family; weight = 700; width = 7; sloped = true })

-- ---- the face

-- ID 16, and ID 1 only where 16 isn't there; an empty 16 is 51 whatever ID 1 is; 20 for neither, whatever other keys are there
abbrev pub Families : Type 0
Families =
    map (face_in 5 sloped)
    (two 2 0 3 2 ∷ one 3 1 0x409 1 2 1 five ∷ one 3 1 0x409 16 1 4 five ∷ two 2 0 0 2 ∷ two 0 0 1 2 ∷ one 3 1 0x409 1 0 0 five ∷ one 3 1 0x409 2 2 0 five ∷ one 1 0 0 1 2 0 five
    ∷ one 3 0 0x409 16 2 0 five ∷ one 3 1 0x407 16 2 0 five ∷ one 0 3 0 16 2 0 five ∷ words (0 ∷ 0 ∷ 6 ∷ []) ∷ [])
    ≡ face (72 ∷ 73 ∷ 74 ∷ []) ∷ face (71 ∷ 72 ∷ []) ∷ face (74 ∷ []) ∷ refused 51 none ∷ face (72 ∷ []) ∷ refused 51 none ∷ refused 20 none ∷ refused 20 none
    ∷ refused 20 none ∷ refused 20 none ∷ refused 20 none ∷ refused 20 none ∷ []

-- "family empty or over 64 bytes"
abbrev pub Lengths : Type 0
Lengths =
    map (λ n. face_in 5 sloped (one 3 1 0x409 16 n 0 (replicate 65 71))) (1 ∷ 63 ∷ 64 ∷ 65 ∷ [])
    ≡ face (71 ∷ []) ∷ face (replicate 63 71) ∷ face (replicate 64 71) ∷ refused 51 none ∷ []

-- the numbers of the 'OS/2' table: the slope is fsSelection bit 0 alone
abbrev pub Styles : Type 0
Styles =
    map (λ b. face_in 0 b (two 2 0 1 0)) (sloped ∷ with 31 0x003E (first 78) ∷ with 31 0x003F (with 2 1 (with 3 9 (first 78))) ∷ with 31 0x0040 (with 2 1000 (with 3 1 (first 78))) ∷ [])
    ≡ face (70 ∷ []) ∷ answered (record { family = 70 ∷ []; weight = 400; width = 5; sloped = false })
    ∷ answered (record { family = 70 ∷ []; weight = 1; width = 9; sloped = true }) ∷ answered (record { family = 70 ∷ []; weight = 1000; width = 1; sloped = false }) ∷ []

-- version 4: bits 7, 8 and 9 (oblique) are no slope
abbrev pub Obliques : Type 0
Obliques =
    map (λ s. face_in 5 (with 31 s (with 0 4 (first 96))) (two 2 0 1 0)) (0x0200 ∷ 0x03BE ∷ 0x0201 ∷ [])
    ≡ answered (record { family = 70 ∷ []; weight = 400; width = 5; sloped = false }) ∷ answered (record { family = 70 ∷ []; weight = 400; width = 5; sloped = false })
    ∷ answered (record { family = 70 ∷ []; weight = 400; width = 5; sloped = true }) ∷ []

-- "A record 16 that is .. too long gives 51; ID 1 is tried only where no record 16 is there."
abbrev pub TooLong : Type 0
TooLong =
    face_in 5 sloped (words (0 ∷ 2 ∷ 30 ∷ 3 ∷ 1 ∷ 0x409 ∷ 1 ∷ 2 ∷ 0 ∷ 3 ∷ 1 ∷ 0x409 ∷ 16 ∷ 65 ∷ 0 ∷ []) ++ replicate 65 71) ≡ refused 51 none

-- records with a text of two bytes under these keys
abbrev pub keyed : List (List ℕ) → List ℕ
keyed [] = []
keyed (k ∷ ks) = words (k ++ 2 ∷ 0 ∷ []) ++ keyed ks

-- no other key is a family's: platform, encoding, language, name
abbrev pub OtherKeys : Type 0
OtherKeys =
    face_in 5 sloped
    (words (0 ∷ 14 ∷ 174 ∷ []) ++ keyed ((0 ∷ 3 ∷ 0 ∷ 1 ∷ []) ∷ (0 ∷ 3 ∷ 0 ∷ 16 ∷ []) ∷ (1 ∷ 0 ∷ 0 ∷ 1 ∷ []) ∷ (1 ∷ 0 ∷ 0 ∷ 16 ∷ []) ∷ (3 ∷ 0 ∷ 0x409 ∷ 1 ∷ []) ∷ (3 ∷ 0 ∷ 0x409 ∷ 16 ∷ [])
    ∷ (3 ∷ 1 ∷ 0x407 ∷ 1 ∷ []) ∷ (3 ∷ 1 ∷ 0x409 ∷ 0 ∷ []) ∷ (3 ∷ 1 ∷ 0x409 ∷ 4 ∷ []) ∷ (3 ∷ 1 ∷ 0x409 ∷ 21 ∷ []) ∷ (3 ∷ 1 ∷ 0x809 ∷ 1 ∷ []) ∷ (3 ∷ 1 ∷ 0x809 ∷ 16 ∷ [])
    ∷ (3 ∷ 10 ∷ 0x409 ∷ 1 ∷ []) ∷ (3 ∷ 10 ∷ 0x409 ∷ 16 ∷ []) ∷ []) ++ five)
    ≡ refused 20 none

-- ---- the order of a load's refusals

-- slot 3 is taken
abbrev pub held : Face
held = record { family = 90 ∷ []; weight = 500; width = 4; sloped = false }

abbrev pub slots : Slots
slots i = cond (eqb i 3) (some held) none

-- a load into slot i at level L
abbrev pub load : ℕ → ℕ → List ℕ → List ℕ → Outcome Face
load = load_of slots

-- each with all that come behind it: 1, 54, 53, 2, 3, 52, the 'name' table's, 20, 51
abbrev pub Orders : Type 0
Orders =
    (load 32 6 [] [] ∷ load 3 6 [] [] ∷ load 4294967296 4294967296 [] [] ∷ load 32 5 [] [] ∷ load 3 5 [] [] ∷ load 3 5 sloped (two 2 0 3 2) ∷ load 31 5 [] [] ∷ load 31 5 (with 2 0 (first 78)) []
    ∷ load 31 4 (with 0 5 (first 96)) [] ∷ load 31 5 sloped [] ∷ load 31 5 sloped (words (2 ∷ 0 ∷ 6 ∷ [])) ∷ load 31 5 sloped (one 3 1 0x409 16 6 0 five) ∷ load 31 5 sloped (one 3 1 0x409 2 0 0 [])
    ∷ load 31 5 sloped (one 3 1 0x409 16 0 0 []) ∷ load 31 5 sloped (two 2 0 3 2) ∷ load 0 5 sloped (two 2 0 3 2) ∷ [])
    ≡ refused 1 none ∷ refused 1 none ∷ refused 1 none ∷ refused 54 none ∷ refused 53 none ∷ refused 53 none ∷ refused 2 none ∷ refused 3 (some 1)
    ∷ refused 52 none ∷ refused 10 none ∷ refused 11 none ∷ refused 27 (some 0) ∷ refused 20 none
    ∷ refused 51 none ∷ face (72 ∷ 73 ∷ 74 ∷ []) ∷ face (72 ∷ 73 ∷ 74 ∷ []) ∷ []

-- "A newer table too short for the level is 2; one too short only for its own version is 52." A broken rule counts only where the table is not newer
abbrev pub Newer : Type 0
Newer =
    map (λ L. load 0 L (with 0 5 (with 2 0 (first 86))) []) (0 ∷ 1 ∷ 2 ∷ 4 ∷ 5 ∷ 6 ∷ [])
    ≡ refused 52 none ∷ refused 52 none ∷ refused 2 none ∷ refused 2 none ∷ refused 2 none ∷ refused 1 none ∷ []

-- a version above all levels is newer than each; one of the level's own version is not
abbrev pub Versions : Type 0
Versions =
    map (λ w. load 0 5 (with 47 1 (with 0 w (first 100))) (two 2 0 3 2)) (5 ∷ 6 ∷ 65535 ∷ [])
    ≡ answered (record { family = 72 ∷ 73 ∷ 74 ∷ []; weight = 400; width = 5; sloped = false }) ∷ refused 52 none ∷ refused 52 none ∷ []

-- an unload: 54, then 55
abbrev pub Unloads : Type 0
Unloads = map (unload_of slots) (3 ∷ 0 ∷ 31 ∷ 32 ∷ 4294967295 ∷ []) ≡ accepted ∷ refused 55 none ∷ refused 55 none ∷ refused 54 none ∷ refused 54 none ∷ []

-- ---- the map after a call: slots 0 to 32, all taken but slot 1

abbrev pub other : ℕ → Option Face
other i = some (record { family = i ∷ []; weight = 500; width = 4; sloped = false })

abbrev pub full : Slots
full i = cond (eqb i 1) none (cond (ltb 31 i) none (other i))

abbrev pub shown : Slots → List (Option Face)
shown m = map m (0 ∷ 1 ∷ 2 ∷ 3 ∷ 4 ∷ 5 ∷ 6 ∷ 7 ∷ 8 ∷ 9 ∷ 10 ∷ 11 ∷ 12 ∷ 13 ∷ 14 ∷ 15 ∷ 16 ∷ 17 ∷ 18 ∷ 19 ∷ 20 ∷ 21 ∷ 22 ∷ 23 ∷ 24 ∷ 25 ∷ 26 ∷ 27 ∷ 28 ∷ 29 ∷ 30 ∷ 31 ∷ 32 ∷ [])

-- all that they held but for slots 1 and 3
abbrev pub but : Option Face → Option Face → List (Option Face)
but x y =
    other 0 ∷ x ∷ other 2 ∷ y
    ∷ other 4 ∷ other 5 ∷ other 6 ∷ other 7 ∷ other 8 ∷ other 9 ∷ other 10 ∷ other 11 ∷ other 12 ∷ other 13
    ∷ other 14 ∷ other 15 ∷ other 16 ∷ other 17 ∷ other 18 ∷ other 19 ∷ other 20 ∷ other 21 ∷ other 22 ∷ other 23
    ∷ other 24 ∷ other 25 ∷ other 26 ∷ other 27 ∷ other 28 ∷ other 29 ∷ other 30 ∷ other 31
    ∷ none ∷ []

abbrev pub filled : ℕ → ℕ → List ℕ → List (Option Face)
filled i L n = shown (after_load full i (load_of full i L sloped n))

abbrev pub After : Type 0
After =
    (filled 1 5 (two 2 0 3 2) ∷ filled 1 6 (two 2 0 3 2) ∷ filled 32 5 (two 2 0 3 2) ∷ filled 3 5 (two 2 0 3 2) ∷ filled 1 5 []
    ∷ shown (after_unload full 3 (unload_of full 3)) ∷ shown (after_unload full 1 (unload_of full 1)) ∷ shown (after_unload full 32 (unload_of full 32)) ∷ [])
    ≡ but (some (record { family = 72 ∷ 73 ∷ 74 ∷ []; weight = 700; width = 7; sloped = true })) (other 3) ∷ but none (other 3) ∷ but none (other 3) ∷ but none (other 3) ∷ but none (other 3)
    ∷ but none none ∷ but none (other 3) ∷ but none (other 3) ∷ []

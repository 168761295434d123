-- Document 02, Ask 4, on whole tables: "Lookup shall also give the record's number. PostScript and version answers carry the number of the record that they
-- used (for a PostScript name, the platform 1 record)."
use Rattle.std.specs.Prelude.{ℕ, ◌≡◌, List, [], ◌∷◌, ◌++◌, map}
use Rattle.std.proofs.Math.Option.{none}
use Rattle.characters.specs.Texts.{codes}
use Rattle.outcomes.specs.Outcomes.{Outcome, refused, answered}
use Rattle.name_layout.specs.Keys.{key_from}
use Rattle.name_search.specs.declared.Text.{Text}
use Rattle.name_lookup.specs.Answers.{lookup_of}
use Rattle.version_text.specs.Examples.{doubled}
use Rattle.name_answers.specs.Names.{postscript_of}
use Rattle.name_answers.specs.Versions.{Reading, version_of}
use Rattle.worked_examples.specs.Records.{words}

-- the 15 bytes of storage: `1.2` and `Ab`, one byte a character, `2.5` and `Ab`, two
abbrev pub strings : List ℕ
strings = codes "1.2Ab" ++ doubled (codes "2.5Ab")

-- records with these keys, lengths and offsets; the first and the third have one string
abbrev pub five : List ℕ
five =
    words (0 ∷ 5 ∷ 66 ∷ 0 ∷ 3 ∷ 0 ∷ 6 ∷ 2 ∷ 3 ∷ 1 ∷ 0 ∷ 0 ∷ 5 ∷ 3 ∷ 0 ∷ 1 ∷ 0 ∷ 0 ∷ 6 ∷ 2 ∷ 3 ∷ 3 ∷ 1 ∷ 1033 ∷ 5 ∷ 6 ∷ 5 ∷ 3 ∷ 1 ∷ 1033 ∷ 6 ∷ 4 ∷ 11 ∷ []) ++ strings

-- in format 1 with a tag, without the platform 3 version record: the platform 1 version record is not the first, and the record before it has its string; so has
-- the last record that of the platform 3 PostScript record
abbrev pub with_tag : List ℕ
with_tag =
    words (1 ∷ 5 ∷ 72 ∷ 1 ∷ 0 ∷ 0 ∷ 4 ∷ 3 ∷ 0 ∷ 1 ∷ 0 ∷ 0 ∷ 5 ∷ 3 ∷ 0 ∷ 1 ∷ 0 ∷ 0 ∷ 6 ∷ 2 ∷ 3 ∷ 3 ∷ 1 ∷ 1033 ∷ 6 ∷ 4 ∷ 11 ∷ 3 ∷ 1 ∷ 32768 ∷ 6 ∷ 4 ∷ 11 ∷ 1 ∷ 0 ∷ 0 ∷ []) ++ strings

-- with both version records, and no number in the string of platform 3
abbrev pub numberless : List ℕ
numberless = words (0 ∷ 2 ∷ 30 ∷ 1 ∷ 0 ∷ 0 ∷ 5 ∷ 3 ∷ 0 ∷ 3 ∷ 1 ∷ 1033 ∷ 5 ∷ 4 ∷ 11 ∷ []) ++ strings

abbrev pub string : ℕ → ℕ → ℕ → Outcome Text
string start len i = answered (record { start = start; len = len; «record» = i })

abbrev pub reading : ℕ → ℕ → ℕ → Outcome Reading
reading major minor i = answered (record { major = major; minor = minor; «record» = i })

-- each key of five records, one that none has, and one with a part of 65,536 more; and keys of the table with a tag that have a string in common
abbrev pub Lookups : Type 0
Lookups = map (lookup_of five)
    (key_from 0 3 0 6 ∷ key_from 1 0 0 5 ∷ key_from 1 0 0 6 ∷ key_from 3 1 1033 5 ∷ key_from 3 1 1033 6 ∷ key_from 3 1 1033 1 ∷ key_from 1 0 65536 5 ∷ [])
    ++ map (lookup_of with_tag) (key_from 1 0 0 4 ∷ key_from 1 0 0 5 ∷ key_from 3 1 1033 6 ∷ key_from 3 1 32768 6 ∷ [])
    ≡ string 69 2 0 ∷ string 66 3 1 ∷ string 69 2 2 ∷ string 71 6 3 ∷ string 77 4 4 ∷ refused 20 none ∷ refused 20 none
    ∷ string 72 3 0 ∷ string 72 3 1 ∷ string 83 4 3 ∷ string 83 4 4 ∷ []

-- "for a PostScript name, the platform 1 record"
abbrev pub Names : Type 0
Names = map postscript_of (five ∷ with_tag ∷ numberless ∷ []) ≡ string 69 2 2 ∷ string 75 2 2 ∷ refused 21 none ∷ []

-- platform 3's version record, where it is there; else platform 1's; and no record beside a refusal
abbrev pub Versions : Type 0
Versions = map version_of (five ∷ with_tag ∷ numberless ∷ []) ≡ reading 2 5 3 ∷ reading 1 2 1 ∷ refused 25 none ∷ []

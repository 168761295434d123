-- Document 01, "it writes", and document 02, Ask 4: tables, what is listed of each, and lines by themselves.
use Rattle.std.specs.Prelude.{ℕ, List, [], ◌∷◌, map}
use Rattle.std.proofs.Math.Option.{none}
use Rattle.characters.specs.Texts.{codes}
use Rattle.outcomes.specs.Outcomes.{refused, answered}
use Rattle.name_lines.specs.Listings.{postscript_text, version_text}

-- "records (1,0,0,6) offset 0 length 2 and (3,1,0x409,6) offset 2 length 4, storage start 30, storage 41 62 00 41 00 62"
abbrev pub two_records : List ℕ
two_records =
    0 ∷ 0 ∷ 0 ∷ 2 ∷ 0 ∷ 30 ∷ 0 ∷ 1 ∷ 0 ∷ 0 ∷ 0 ∷ 0 ∷ 0 ∷ 6 ∷ 0 ∷ 2 ∷ 0 ∷ 0 ∷ 0 ∷ 3 ∷ 0 ∷ 1 ∷ 4 ∷ 9 ∷ 0 ∷ 6 ∷ 0 ∷ 4 ∷ 0 ∷ 2 ∷ 65 ∷ 98 ∷ 0 ∷ 65 ∷ 0 ∷ 98 ∷ []

-- those with (3,1,0x409,5) between them, offset 6 length 6, storage start 42, storage 41 62 00 41 00 62 00 32 00 2e 00 35
abbrev pub three_records : List ℕ
three_records =
    0 ∷ 0 ∷ 0 ∷ 3 ∷ 0 ∷ 42 ∷ 0 ∷ 1 ∷ 0 ∷ 0 ∷ 0 ∷ 0 ∷ 0 ∷ 6 ∷ 0 ∷ 2 ∷ 0 ∷ 0 ∷ 0 ∷ 3 ∷ 0 ∷ 1 ∷ 4 ∷ 9 ∷ 0 ∷ 5 ∷ 0 ∷ 6 ∷ 0 ∷ 6 ∷ 0 ∷ 3 ∷ 0 ∷ 1 ∷ 4 ∷ 9 ∷ 0 ∷ 6 ∷ 0 ∷ 4 ∷ 0 ∷ 2
    ∷ 65 ∷ 98 ∷ 0 ∷ 65 ∷ 0 ∷ 98 ∷ 0 ∷ 50 ∷ 0 ∷ 46 ∷ 0 ∷ 53 ∷ []

-- "With both keys (1,0,0,6)"
abbrev pub equal_keys : List ℕ
equal_keys =
    0 ∷ 0 ∷ 0 ∷ 2 ∷ 0 ∷ 30 ∷ 0 ∷ 1 ∷ 0 ∷ 0 ∷ 0 ∷ 0 ∷ 0 ∷ 6 ∷ 0 ∷ 2 ∷ 0 ∷ 0 ∷ 0 ∷ 1 ∷ 0 ∷ 0 ∷ 0 ∷ 0 ∷ 0 ∷ 6 ∷ 0 ∷ 4 ∷ 0 ∷ 2 ∷ 65 ∷ 98 ∷ 0 ∷ 65 ∷ 0 ∷ 98 ∷ []

-- a format that is neither 0 nor 1
abbrev pub in_other_format : List ℕ
in_other_format = 0 ∷ 2 ∷ 0 ∷ 0 ∷ 0 ∷ 6 ∷ []

abbrev pub tables : List (List ℕ)
tables = two_records ∷ three_records ∷ equal_keys ∷ in_other_format ∷ []

-- "it writes", with the records' numbers as document 02's Ask 4 adds them; "its listing with equal keys `refused 19 at 1`" (document 02, Ask 3); "Without a place"
abbrev pub listings : List (List ℕ)
listings =
    codes "name format 0 records 2 storage 6\n0 1 0 0 6 0 2\n1 3 1 1033 6 2 4\npostscript Ab record 0\nversion refused 20\n"
    ∷ codes "name format 0 records 3 storage 12\n0 1 0 0 6 0 2\n1 3 1 1033 5 6 6\n2 3 1 1033 6 2 4\npostscript Ab record 0\nversion 2 5 record 1\n"
    ∷ codes "refused 19 at 1\n"
    ∷ codes "refused 11\n"
    ∷ []

-- "A version found reads `version 2 5`, a PostScript refusal `postscript refused 21`", a PostScript name and a version's refusal alike; Ask 4's number behind
-- what is found
abbrev pub other_lines : List (List ℕ)
other_lines =
    version_text (answered (record { major = 65534; minor = 5; «record» = 5459 }))
    ∷ postscript_text (codes "Ab") (answered (record { start = 1; len = 1; «record» = 5459 }))
    ∷ version_text (refused 25 none)
    ∷ map (λ (n : ℕ). postscript_text [] (refused n none)) (21 ∷ 22 ∷ 23 ∷ 24 ∷ [])

abbrev pub other_texts : List (List ℕ)
other_texts =
    codes "version 65534 5 record 5459\n"
    ∷ codes "postscript b record 5459\n"
    ∷ codes "version refused 25\n"
    ∷ codes "postscript refused 21\n"
    ∷ codes "postscript refused 22\n"
    ∷ codes "postscript refused 23\n"
    ∷ codes "postscript refused 24\n"
    ∷ []

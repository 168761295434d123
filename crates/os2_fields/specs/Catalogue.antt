-- Document 01, "The 'OS/2' fields": the catalogue of 48 fields. Nothing else in the definitions knows an offset.
use Rattle.std.specs.Prelude.{ℕ, true, false, List, [], ◌∷◌, get_or}
use Rattle.os2_fields.specs.declared.catalogue.Field.{Field}

-- an unsigned and a signed field: its offset, its bytes, and the version that it came in with
abbrev pub plain : ℕ → ℕ → ℕ → Field
plain o n p = record { offset = o; width = n; signed = false; since = p }

abbrev pub signed : ℕ → ℕ → ℕ → Field
signed o n p = record { offset = o; width = n; signed = true; since = p }

-- the fields, numbered as they stand
unfoldable pub catalogue : List Field
catalogue =
    -- 0 version, 1 average width s, 2 weight, 3 width, 4 fsType
    plain 0 2 0 ∷ signed 2 2 0 ∷ plain 4 2 0 ∷ plain 6 2 0 ∷ plain 8 2 0 ∷
    -- 5 to 8 subscript x size, y size, x offset, y offset, all s; 9 to 12 superscript, same
    signed 10 2 0 ∷ signed 12 2 0 ∷ signed 14 2 0 ∷ signed 16 2 0 ∷ signed 18 2 0 ∷ signed 20 2 0 ∷ signed 22 2 0 ∷ signed 24 2 0 ∷
    -- 13 strikeout size s, 14 its position s, 15 family class s
    signed 26 2 0 ∷ signed 28 2 0 ∷ signed 30 2 0 ∷
    -- 16 to 25 PANOSE
    plain 32 1 0 ∷ plain 33 1 0 ∷ plain 34 1 0 ∷ plain 35 1 0 ∷ plain 36 1 0 ∷ plain 37 1 0 ∷ plain 38 1 0 ∷ plain 39 1 0 ∷ plain 40 1 0 ∷ plain 41 1 0 ∷
    -- 26 to 29 Unicode ranges
    plain 42 4 0 ∷ plain 46 4 0 ∷ plain 50 4 0 ∷ plain 54 4 0 ∷
    -- 30 vendor
    plain 58 4 0 ∷
    -- 31 fsSelection, 32 first char, 33 last char
    plain 62 2 0 ∷ plain 64 2 0 ∷ plain 66 2 0 ∷
    -- 34 to 36 typo ascender, descender, gap, all s; 37, 38 win ascent, descent
    signed 68 2 0 ∷ signed 70 2 0 ∷ signed 72 2 0 ∷ plain 74 2 0 ∷ plain 76 2 0 ∷
    -- 39, 40 code pages
    plain 78 4 1 ∷ plain 82 4 1 ∷
    -- 41 x height s, 42 cap height s, 43 default, 44 break, 45 max context
    signed 86 2 2 ∷ signed 88 2 2 ∷ plain 90 2 2 ∷ plain 92 2 2 ∷ plain 94 2 2 ∷
    -- 46, 47 lower, upper optical size
    plain 96 2 5 ∷ plain 98 2 5 ∷
    []

-- how many there are
abbrev pub field_count : ℕ
field_count = 48

-- field number k; a number above 47 has no field
unfoldable pub field_of : ℕ → Field
field_of k = get_or catalogue k (plain 0 0 0)

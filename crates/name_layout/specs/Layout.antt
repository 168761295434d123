-- Document 01, "The 'name' layout": where each number of a table stands. A byte past the table's end reads as 0.
use Rattle.std.specs.Prelude.{ℕ, ◌+◌, ◌*◌, List, cond, eqb, take, drop}
use Rattle.bigendian.specs.Numbers.{number}
use Rattle.name_layout.specs.declared.Record.{Record}

-- "Format, count, storage start: three 16-bit numbers."
abbrev pub format : List ℕ → ℕ
format t = number 2 t 0

abbrev pub count : List ℕ → ℕ
count t = number 2 t 2

abbrev pub storage : List ℕ → ℕ
storage t = number 2 t 4

-- "Then 12 bytes a record: platform, encoding, language, name, length, offset."
abbrev pub record_at : ℕ → ℕ
record_at i = 6 + 12 * i

-- the number that stands so many bytes after the start of record i
abbrev pub part : List ℕ → ℕ → ℕ → ℕ
part t i at = number 2 t (record_at i + at)

abbrev pub platform : List ℕ → ℕ → ℕ
platform t i = part t i 0

abbrev pub encoding : List ℕ → ℕ → ℕ
encoding t i = part t i 2

abbrev pub language : List ℕ → ℕ → ℕ
language t i = part t i 4

abbrev pub name_id : List ℕ → ℕ → ℕ
name_id t i = part t i 6

-- where a record has its string's length, and after it the offset
abbrev pub text_at : ℕ → ℕ
text_at i = record_at i + 8

-- where the records end
abbrev pub records_end : List ℕ → ℕ
records_end t = record_at (count t)

-- "In format 1 a 16-bit tag count follows, then 4 bytes a tag: length, offset."
unfoldable pub tag_count : List ℕ → ℕ
tag_count t = cond (eqb (format t) 0) 0 (number 2 t (records_end t))

-- where the tags start, where tag i stands, and where the tags end
unfoldable pub tags_at : List ℕ → ℕ
tags_at t = cond (eqb (format t) 0) (records_end t) (records_end t + 2)

abbrev pub tag_at : List ℕ → ℕ → ℕ
tag_at t i = tags_at t + 4 * i

abbrev pub tags_end : List ℕ → ℕ
tags_end t = tag_at t (tag_count t)

-- "Offsets count from the storage start": the string whose length, and after it its offset, stand at a place
abbrev pub string_length : List ℕ → ℕ → ℕ
string_length t at = number 2 t at

abbrev pub string_offset : List ℕ → ℕ → ℕ
string_offset t at = number 2 t (at + 2)

abbrev pub string_start : List ℕ → ℕ → ℕ
string_start t at = storage t + string_offset t at

abbrev pub string_end : List ℕ → ℕ → ℕ
string_end t at = string_start t at + string_length t at

-- record i
abbrev pub record_in : List ℕ → ℕ → Record
record_in t i =
    record {
      platform = platform t i;
      encoding = encoding t i;
      language = language t i;
      name = name_id t i;
      length = string_length t (text_at i);
      offset = string_offset t (text_at i);
    }

-- the bytes of record i's string
unfoldable pub bytes_of : List ℕ → ℕ → List ℕ
bytes_of t i = take (string_length t (text_at i)) (drop (string_start t (text_at i)) t)

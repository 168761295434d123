-- Document 01, "Numbers given for a refusal", 10 to 18, and document 02, Ask 3, which splits 15 and 17, one by one: each definition says when its refusal's
-- condition holds.
use Rattle.std.specs.Prelude.{ℕ, ◌+◌, ◌-◌, List, Bool, cond, ◌&&◌, ◌||◌, length, ltb, leb, eqb}
use Rattle.name_layout.specs.Layout.{format, storage, platform, language, records_end, tag_count, tags_end, string_start, string_end}
use Rattle.name_layout.specs.Keys.{key_of, same, below}

-- 10: "'name' under 6 bytes"
unfoldable pub is_too_short : List ℕ → Bool
is_too_short t = ltb (length t) 6

-- 11: "format neither 0 nor 1"
unfoldable pub in_other_format : List ℕ → Bool
in_other_format t = ltb 1 (format t)

-- 12: "name records pass the table's end"
unfoldable pub records_pass_end : List ℕ → Bool
records_pass_end t = ltb (length t) (records_end t)

-- 13: "tag count or tag records pass the end"; format 0 has none
unfoldable pub tags_pass_end : List ℕ → Bool
tags_pass_end t = ltb (length t) (tags_end t)

-- 14: "storage start before the end of the records and tags, or past the table's end"
unfoldable pub misplaced : List ℕ → Bool
misplaced t = ltb (storage t) (tags_end t) || ltb (length t) (storage t)

-- 15: "when the string starts beyond the storage end" (Ask 3), which is the table's end
unfoldable pub starts_beyond : List ℕ → ℕ → Bool
starts_beyond t at = ltb (length t) (string_start t at)

-- 16: a "string passes the end of storage"
unfoldable pub string_passes : List ℕ → ℕ → Bool
string_passes t at = ltb (length t) (string_end t at)

-- 27: "when it starts within or at the end and runs over" (Ask 3)
unfoldable pub runs_over : List ℕ → ℕ → Bool
runs_over t at = leb (string_start t at) (length t) && string_passes t at

-- 18: "In format 0 a language of 0x8000 or more is allowed only for platforms 240 to 255.
-- In format 1 a language of 0x8000 or more must be below 0x8000 plus the tag count, on every platform.": language l on platform p in format f
unfoldable pub forbidden : ℕ → ℕ → ℕ → ℕ → Bool
forbidden f tags p l =
    leb 32768 l && cond (eqb f 0) (ltb p 240 || ltb 255 p) (leb (32768 + tags) l)

-- 18 of record i
unfoldable pub is_language_refused : List ℕ → ℕ → Bool
is_language_refused t i = forbidden (format t) (tag_count t) (platform t i) (language t i)

-- 17: "for a key below the one before" (Ask 3)
unfoldable pub below_before : List ℕ → ℕ → Bool
below_before t i = ltb 0 i && below (key_of t i) (key_of t (i - 1))

-- 19: "for a key equal to it" (Ask 3)
unfoldable pub equals_before : List ℕ → ℕ → Bool
equals_before t i = ltb 0 i && same (key_of t i) (key_of t (i - 1))

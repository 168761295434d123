-- Document 02, Ask 5: "write a format 0 table: records in the given order, strings copied one after another, nothing shared, storage directly after the
-- records". What that table is, in propositions, and as bytes.
use Rattle.std.specs.Prelude.{ℕ, zero, suc, ◌+◌, ◌/◌, ◌%◌, ◌<◌, ◌≡◌, List, [], ◌∷◌, ◌++◌, length}
use Rattle.name_layout.specs.Layout.{format, count, storage, record_at, text_at, records_end, string_length, string_offset, bytes_of}
use Rattle.name_layout.specs.Keys.{key_of}
use Rattle.name_store.specs.declared.Entry.{Entry}
use Rattle.name_store.specs.Entries.{entry_at, key_for, text_for, offset_for}

-- ---- in propositions

-- t is the table of the entries, with their texts in the pool
pub record TableOf (pool : List ℕ) (es : List Entry) (t : List ℕ) : Type 0 where
  -- "a format 0 table"
  pub plain : format t ≡ 0
  -- "records in the given order": as many as there are entries, and record i has entry i's four numbers and length
  pub as_many : count t ≡ length es
  pub keys : (i : ℕ) → i < length es → key_of t i ≡ key_for (entry_at es i)
  pub lengths : (i : ℕ) → i < length es → string_length t (text_at i) ≡ (entry_at es i).length
  -- "storage directly after the records"
  pub directly : storage t ≡ records_end t
  -- "strings copied one after another, nothing shared"
  pub offsets : (i : ℕ) → i < length es → string_offset t (text_at i) ≡ offset_for es i
  pub copied : (i : ℕ) → i < length es → bytes_of t i ≡ text_for pool (entry_at es i)
  -- and nothing after them
  pub ends : length t ≡ storage t + offset_for es (length es)

-- ---- as bytes

-- a 16-bit number
abbrev pub two : ℕ → List ℕ
two x = x / 256 ∷ x % 256 ∷ []

-- format 0, so many records, and the storage directly after them
abbrev pub front_for : ℕ → List ℕ
front_for n = two 0 ++ (two n ++ two (record_at n))

-- the record of an entry whose string starts at an offset
abbrev pub record_for : Entry → ℕ → List ℕ
record_for e offset =
    two e.platform ++ (two e.encoding ++ (two e.language ++ (two e.name ++ (two e.length ++ two offset))))

-- the records, and the strings, of the first n entries
unfoldable pub records_of : List Entry → ℕ → List ℕ
records_of es zero = []
records_of es (suc n) = records_of es n ++ record_for (entry_at es n) (offset_for es n)

unfoldable pub strings_of : List ℕ → List Entry → ℕ → List ℕ
strings_of pool es zero = []
strings_of pool es (suc n) = strings_of pool es n ++ text_for pool (entry_at es n)

-- the whole table
unfoldable pub table_of : List ℕ → List Entry → List ℕ
table_of pool es = front_for (length es) ++ (records_of es (length es) ++ strings_of pool es (length es))

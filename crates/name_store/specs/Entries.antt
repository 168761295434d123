-- Document 02, Ask 5: "a lent list of entries, each with its four numbers and the start and length of its text in a lent pool".
use Rattle.std.specs.Prelude.{ℕ, zero, suc, ◌+◌, ◌<◌, List, length, get_or, take, drop}
use Rattle.name_layout.specs.Layout.{record_at}
use Rattle.name_layout.specs.Keys.{Key, key_from}
use Rattle.name_store.specs.declared.Entry.{Entry}

-- what stands for an entry where there is none
abbrev pub no_entry : Entry
no_entry = record { platform = 0; encoding = 0; language = 0; name = 0; start = 0; length = 0 }

-- entry i of a list
abbrev pub entry_at : List Entry → ℕ → Entry
entry_at es i = get_or es i no_entry

-- "its four numbers"
abbrev pub key_for : Entry → Key
key_for e = key_from e.platform e.encoding e.language e.name

-- "start plus length", with a start that "isn't limited"
abbrev pub text_end : Entry → ℕ
text_end e = e.start + e.length

-- "its text in a lent pool": as many bytes as its length, from its start on
unfoldable pub text_for : List ℕ → Entry → List ℕ
text_for pool e = take e.length (drop e.start pool)

-- "strings copied one after another": the string of entry i starts in storage where all those before it end
unfoldable pub offset_for : List Entry → ℕ → ℕ
offset_for es zero = 0
offset_for es (suc i) = offset_for es i + (entry_at es i).length

-- "the table's length": the front, the records and the strings
abbrev pub size_for : List Entry → ℕ
size_for es = record_at (length es) + offset_for es (length es)

-- "All entry numbers are 16-bit except the start"
pub record Sixteen (e : Entry) : Type 0 where
  pub platform : e.platform < 65536
  pub encoding : e.encoding < 65536
  pub language : e.language < 65536
  pub name : e.name < 65536
  pub length : e.length < 65536

abbrev pub Entries : List Entry → Type 0
Entries es = (i : ℕ) → i < length es → Sixteen (entry_at es i)

-- Which record of a table has a key, as a search and as a proposition; how many records a search looks at; and the string of a record, as a value and as a proposition.
use Rattle.std.specs.Prelude.{ℕ, ◌+◌, ◌≤◌, ◌<◌, ◌≡◌, List, length, take, drop}
use Rattle.std.proofs.Math.Option.{Option}
use Rattle.bigendian.specs.Numbers.{Bytes}
use Rattle.outcomes.specs.Firsts.{when, first_among}
use Rattle.name_layout.specs.Layout.{count, storage, text_at, string_start, string_length, bytes_of}
use Rattle.name_layout.specs.Keys.{Key, key_of, same}
use Rattle.name.specs.Acceptable.{Acceptable}
use Rattle.name_search.specs.Steps.{looks_among}
use Rattle.name_search.specs.declared.Text.{Text}

-- record i has the key
pub record HasKey (t : List ℕ) (k : Key) (i : ℕ) : Type 0 where
  pub inside : i < count t
  pub has : key_of t i ≡ k

-- there is at most one such record in an accepted table, so which one is answered is settled
abbrev pub AtMostOne : Type 0
AtMostOne = (t : List ℕ) → Bytes t → Acceptable t → (k : Key) (i j : ℕ) → HasKey t k i → HasKey t k j → i ≡ j

-- the record that has the key, if there is one
unfoldable pub record_with : List ℕ → Key → Option ℕ
record_with t k = first_among (λ i. when (same (key_of t i) k) i) (count t)

-- document 02, Ask 8: how many of a table's records a search for the key looks at
unfoldable pub looks_for : List ℕ → Key → ℕ
looks_for t k = looks_among (key_of t) k (count t)

-- x is the string of record i: "the string's start, from the table's first byte, and its length"; document 02, Ask 4: and "the record's number"
pub record StringOf (t : List ℕ) (i : ℕ) (x : Text) : Type 0 where
  pub start : x.start ≡ string_start t (text_at i)
  pub len : x.len ≡ string_length t (text_at i)
  pub number : x.«record» ≡ i

-- as many bytes as its length, from its start on, lie within storage and are the string of the record of its number
abbrev pub HasBytes : List ℕ → Text → Type 0
HasBytes t x = (storage t ≤ x.start) × (x.start + x.len ≤ length t) × (take x.len (drop x.start t) ≡ bytes_of t x.«record»)

-- the string of record i
unfoldable pub text_of : List ℕ → ℕ → Text
text_of t i = record { start = string_start t (text_at i); len = string_length t (text_at i); «record» = i }

-- Document 02, Ask 5: "Reading the result must find each entry's text." Of any check, any lookup and any writer, in propositions.
use Rattle.std.specs.Prelude.{ℕ, ◌≤◌, ◌<◌, ◌≡◌, ◌↔◌, List, length, take, drop}
use Rattle.std.proofs.Math.Option.{Option, none}
use Rattle.bigendian.specs.Numbers.{Bytes}
use Rattle.outcomes.specs.Outcomes.{Outcome, refused, answered, accepted}
use Rattle.name_layout.specs.Keys.{Key}
use Rattle.name_search.specs.declared.Text.{Text}
use Rattle.name_store.specs.declared.Entry.{Entry}
use Rattle.name_store.specs.Entries.{entry_at, key_for, text_end, text_for, offset_for, size_for, Entries}
use Rattle.name_store.specs.Tables.{TableOf}

-- a lookup by the four numbers of entry i finds its text, in record i of the table t
pub record Finds (lookup : List ℕ → Key → Outcome Text) (pool : List ℕ) (e : Entry) (i : ℕ) (t : List ℕ) : Type 0 where
  pub text : Text
  pub found : lookup t (key_for e) ≡ answered text
  pub number : text.«record» ≡ i
  pub len : text.len ≡ e.length
  pub bytes : take text.len (drop text.start t) ≡ text_for pool e

-- t is read as the entries that it was written from
pub record ReadAs (check : List ℕ → Outcome (Unit {0})) (lookup : List ℕ → Key → Outcome Text) (pool : List ℕ) (es : List Entry) (t : List ℕ) : Type 0 where
  pub accepts : check t ≡ accepted
  pub finds : (i : ℕ) → i < length es → Finds lookup pool (entry_at es i) i t
  -- and nothing else is found in it
  pub alone : (k : Key) → ((i : ℕ) → i < length es → key_for (entry_at es i) ≡ k → ⊥) → lookup t k ≡ refused 20 none

-- what is written is read so
abbrev pub ReadsBack : (List ℕ → Outcome (Unit {0})) → (List ℕ → Key → Outcome Text) → (List Entry → ℕ → ℕ → Outcome ℕ) → (List Entry → List ℕ → List ℕ → List ℕ) → Type 0
ReadsBack check lookup result room =
    (es : List Entry) (pool r : List ℕ) → Entries es → Bytes pool → Bytes r → (n : ℕ) → result es (length pool) (length r) ≡ answered n →
    ReadAs check lookup pool es (take n (room es pool r))

-- nothing but a language or a key can be wrong with the entries: none of 30, 31, 32, 33. p is the pool's length, r the room's
pub record Fitting (es : List Entry) (p r : ℕ) : Type 0 where
  pub few : length es ≤ 5460
  pub inside : (i : ℕ) → i < length es → text_end (entry_at es i) ≤ p
  pub near : (i : ℕ) → i < length es → offset_for es i ≤ 65535
  pub enough : size_for es ≤ r

-- 18, 17 and 19 are the reader's: the writer then refuses with exactly what a check says of the table of the entries
abbrev pub SameRefusals : (List ℕ → Outcome (Unit {0})) → (List Entry → ℕ → ℕ → Outcome ℕ) → Type 0
SameRefusals check result =
    (es : List Entry) (pool t : List ℕ) (r : ℕ) → Fitting es (length pool) r → TableOf pool es t → (n : ℕ) (c : Option ℕ) →
    (result es (length pool) r ≡ refused n c) ↔ (check t ≡ refused n c)

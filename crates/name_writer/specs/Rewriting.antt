-- The records of an accepted format 0 table, written anew with the table as the pool. Of any lookup and any writer, in propositions.
use Rattle.std.specs.Prelude.{ℕ, ◌<◌, ◌≡◌, List, length, take, drop}
use Rattle.std.proofs.Math.Option.{none, some}
use Rattle.bigendian.specs.Numbers.{Bytes}
use Rattle.outcomes.specs.Outcomes.{Outcome, refused, answered}
use Rattle.name_layout.specs.Layout.{format, count, text_at, string_start, string_length}
use Rattle.name_layout.specs.Keys.{Key, key_of}
use Rattle.name.specs.Acceptable.{Acceptable}
use Rattle.name_search.specs.declared.Text.{Text}
use Rattle.name_store.specs.declared.Entry.{Entry}
use Rattle.name_store.specs.Entries.{entry_at, key_for}

-- entry i is record i of the table, and its text lies where the record's string does
pub record RecordsOf (t : List ℕ) (es : List Entry) : Type 0 where
  pub as_many : length es ≡ count t
  pub keys : (i : ℕ) → i < count t → key_for (entry_at es i) ≡ key_of t i
  pub starts : (i : ℕ) → i < count t → (entry_at es i).start ≡ string_start t (text_at i)
  pub lengths : (i : ℕ) → i < count t → (entry_at es i).length ≡ string_length t (text_at i)

-- two tables answer a lookup alike: none has the key, or both have it in a record of the same number with the same length and bytes
pub data Alike (lookup : List ℕ → Key → Outcome Text) (t u : List ℕ) (k : Key) : Type 0 where
  neither : lookup t k ≡ refused 20 none → lookup u k ≡ refused 20 none → Alike lookup t u k
  both : {x y : Text} → lookup t k ≡ answered x → lookup u k ≡ answered y → x.«record» ≡ y.«record» → x.len ≡ y.len →
      take x.len (drop x.start t) ≡ take y.len (drop y.start u) → Alike lookup t u k

-- they are refused by 32 or 33 alone, or give a table that answers every lookup with the same bytes
pub data Rewritten (lookup : List ℕ → Key → Outcome Text) (result : List Entry → ℕ → ℕ → Outcome ℕ) (room : List Entry → List ℕ → List ℕ → List ℕ)
    (t : List ℕ) (es : List Entry) (r : List ℕ) : Type 0 where
  too_far : {i : ℕ} → result es (length t) (length r) ≡ refused 32 (some i) → Rewritten lookup result room t es r
  no_room : result es (length t) (length r) ≡ refused 33 none → Rewritten lookup result room t es r
  same : {n : ℕ} → result es (length t) (length r) ≡ answered n → ((k : Key) → Alike lookup t (take n (room es t r)) k) → Rewritten lookup result room t es r

abbrev pub Rewrites : (List ℕ → Key → Outcome Text) → (List Entry → ℕ → ℕ → Outcome ℕ) → (List Entry → List ℕ → List ℕ → List ℕ) → Type 0
Rewrites lookup result room =
    (t : List ℕ) (es : List Entry) (r : List ℕ) → Bytes t → Bytes r → Acceptable t → format t ≡ 0 → RecordsOf t es →
    Rewritten lookup result room t es r

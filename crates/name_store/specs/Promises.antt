-- What is right for any writer of a 'name' table, in propositions.
use Rattle.std.specs.Prelude.{ℕ, ◌≡◌, ◌↔◌, List, length, take, drop}
use Rattle.std.proofs.Math.Option.{Option}
use Rattle.bigendian.specs.Numbers.{Bytes}
use Rattle.outcomes.specs.Outcomes.{Outcome, refused, answered}
use Rattle.name_store.specs.declared.Entry.{Entry}
use Rattle.name_store.specs.Entries.{Entries}
use Rattle.name_store.specs.Tables.{TableOf}
use Rattle.name_store.specs.WriteSettled.{WriteSettled}

-- `result` is what a writer answers, by the entries, the pool's length and the room's length; `room` is the room that it leaves, by the entries, the pool
-- and the room that it was lent
pub record WriteRight (result : List Entry → ℕ → ℕ → Outcome ℕ) (room : List Entry → List ℕ → List ℕ → List ℕ) : Type 0 where
  -- "Refusals, in order", and "On success it answers the table's length"
  pub settled : (es : List Entry) (p r : ℕ) (o : Outcome ℕ) → (result es p r ≡ o) ↔ WriteSettled es p r o
  -- "nothing is written on any of them"
  pub untouched : (es : List Entry) (pool r : List ℕ) (n : ℕ) (c : Option ℕ) → result es (length pool) (length r) ≡ refused n c → room es pool r ≡ r
  -- the table, "and bytes past that are untouched"
  pub written : (es : List Entry) (pool r : List ℕ) (n : ℕ) → result es (length pool) (length r) ≡ answered n →
      TableOf pool es (take n (room es pool r)) × (drop n (room es pool r) ≡ drop n r)

-- a room of bytes stays one
abbrev pub KeepsBytes : (List Entry → List ℕ → List ℕ → List ℕ) → Type 0
KeepsBytes room = (es : List Entry) (pool r : List ℕ) → Entries es → Bytes pool → Bytes r → Bytes (room es pool r)

-- nothing else is in the table: bytes that are the table of the entries are no others
abbrev pub OneTable : Type 0
OneTable = (pool : List ℕ) (es : List Entry) (s t : List ℕ) → Bytes s → Bytes t → TableOf pool es s → TableOf pool es t → s ≡ t

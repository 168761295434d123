-- Document 02, Ask 8: what a lookup reports, of any report, in plain propositions.
use Rattle.std.specs.Prelude.{ℕ, ◌*◌, ◌^◌, ◌≤◌, ◌<◌, ◌≡◌, List}
use Rattle.bigendian.specs.Numbers.{Bytes}
use Rattle.outcomes.specs.Outcomes.{Refusal}
use Rattle.name_layout.specs.Layout.{count}
use Rattle.name_layout.specs.Keys.{Key, key_of}
use Rattle.name.specs.Acceptable.{Acceptable}
use Rattle.name.specs.Refusing.{Refused}
use Rattle.name_search.specs.Steps.{Steps}

-- all that is right for a report
pub record ReportRight (report : List ℕ → Key → ℕ) : Type 0 where
  -- "The report equals those steps", among the keys of the table's records, whatever the key
  pub steps : (t : List ℕ) (k : Key) → Acceptable t → Steps (key_of t) k 0 (count t) (report t k)
  -- "A refused table reports 0"
  pub refused : (t : List ℕ) (k : Key) (r : Refusal) → Refused t r → report t k ≡ 0

-- what a box may budget with
pub record Budgeted (report : List ℕ → Key → ℕ) : Type 0 where
  -- "is 0 for an empty table"
  pub empty : (t : List ℕ) (k : Key) → count t ≡ 0 → report t k ≡ 0
  -- "and otherwise two to the power of the report is at most twice the count"
  pub bounded : (t : List ℕ) (k : Key) → 0 < count t → 2 ^ report t k ≤ 2 * count t
  -- "so never above 13"
  pub most : (t : List ℕ) → Bytes t → (k : Key) → report t k ≤ 13

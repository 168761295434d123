-- What document 02, Ask 2, settles of two 'name' tables, in propositions, over any comparison.
use Rattle.std.specs.Prelude.{ℕ, ◌≡◌, List, length}
use Rattle.bigendian.specs.Numbers.{Bytes}
use Rattle.outcomes.specs.Outcomes.{Refusal}
use Rattle.name_layout.specs.Layout.{bytes_of}
use Rattle.name_layout.specs.Keys.{Key, KeyBelow}
use Rattle.name.specs.Refusing.{Refused}
use Rattle.name_search.specs.Searches.{HasKey}
use Rattle.comparing.specs.Comparisons.{Comparison}
use Rattle.comparing.specs.Settled as comparisons
use Rattle.name_compare.specs.Differences.{Difference, left_only, right_only, both_other, row_of}

-- no record of the table has the key
abbrev pub Lacks : List ℕ → Key → Type 0
Lacks t k = (i : ℕ) → HasKey t k i → ⊥

-- which of the three holds of a key. "in both with other string bytes": two records have it, and their strings' bytes are not the same, wherever they lie
pub data Differs (left right : List ℕ) : Difference → Type 0 where
  only_left : {k : Key} {i : ℕ} → HasKey left k i → Lacks right k → Differs left right (record { key = k; which = left_only })
  only_right : {k : Key} {j : ℕ} → Lacks left k → HasKey right k j → Differs left right (record { key = k; which = right_only })
  other_bytes : {k : Key} {i j : ℕ} → HasKey left k i → HasKey right k j → (bytes_of left i ≡ bytes_of right j → ⊥) → Differs left right (record { key = k; which = both_other })

-- "in one key order"
abbrev pub DifferenceBelow : Difference → Difference → Type 0
DifferenceBelow d e = KeyBelow d.key e.key

-- all of Ask 2 for two 'name' tables; the call has no refusal of its own
abbrev pub CompareSettled : List ℕ → List ℕ → List ℕ → Comparison → List ℕ → Type 0
CompareSettled left right room =
    comparisons.Settled (λ (r : Refusal). ⊥) (Refused left) (Refused right) DifferenceBelow (Differs left right) row_of room

-- of any comparison, given by its answer and the room after it
abbrev pub ComparesNames : (List ℕ → List ℕ → ℕ → Comparison) → (List ℕ → List ℕ → List ℕ → List ℕ) → Type 0
ComparesNames answer after =
    (left right room : List ℕ) → Bytes left → Bytes right → CompareSettled left right room (answer left right (length room)) (after left right room)

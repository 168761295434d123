-- What the tests, and the functions that stand on them, assume of a table.
use Rattle.std.specs.Prelude.{ℕ, ◌≤◌, List, length}
use Rattle.name_layout.specs.Layout.{records_end, tags_end}

-- the records and tags lie within the table: none of 10, 12 and 13
pub record Framed (t : List ℕ) : Type 0 where
  pub front : 6 ≤ length t
  pub records : records_end t ≤ length t
  pub tags : tags_end t ≤ length t

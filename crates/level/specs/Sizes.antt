-- Document 01, "The 'OS/2' fields": the size of a table by its version.
use Rattle.std.specs.Prelude.{ℕ, cond, ltb}

-- "version 0, 78 bytes; 1, 86; 2, 3 and 4, 96; 5 and any later, 100"
unfoldable pub table_size : ℕ → ℕ
table_size v = cond (ltb v 1) 78 (cond (ltb v 2) 86 (cond (ltb v 5) 96 100))

-- Document 01, "Examples to check against": how its 'OS/2' tables are made from the first one.
use Rattle.std.specs.Prelude.{ℕ, List, replicate}
use Rattle.bigendian.specs.Numbers.{stored}
use Rattle.os2_fields.specs.Catalogue.{field_of}

-- a table with n in its field k
abbrev pub with : ℕ → ℕ → List ℕ → List ℕ
with k n b = stored (field_of k).width b (field_of k).offset n

-- "zero bytes but weight 400, width 5"
abbrev pub first : ℕ → List ℕ
first size = with 2 400 (with 3 5 (replicate size 0))

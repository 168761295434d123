-- What stands in the fields of a table.
use Rattle.std.specs.Prelude.{ℕ, ◌/◌, ◌^◌, cond, List, ltb, ℤ, pos, ◌-ℤ◌}
use Rattle.bigendian.specs.Numbers.{number}
use Rattle.os2_rules.specs.declared.Values.{Values}
use Rattle.os2_fields.specs.declared.catalogue.Field.{Field}
use Rattle.os2_fields.specs.Catalogue.{field_of}

-- the number that a field's bytes make
unfoldable pub raw_in : List ℕ → Field → ℕ
raw_in b f = number f.width b f.offset

-- "s means signed": of the numbers of n bytes the upper half stands for the negative ones
unfoldable pub signed_of : ℕ → ℕ → ℤ
signed_of n x = cond (ltb x (256 ^ n / 2)) (pos x) (pos x -ℤ pos (256 ^ n))

-- the whole number that a field holds
unfoldable pub value_in : List ℕ → Field → ℤ
value_in b f = cond f.signed (signed_of f.width (raw_in b f)) (pos (raw_in b f))

-- field k without its sign
abbrev pub raw : List ℕ → ℕ → ℕ
raw b k = raw_in b (field_of k)

-- "w the version stored in the table"
abbrev pub version : List ℕ → ℕ
version b = raw b 0

-- an optical size, of a version that has it
abbrev pub optical_size : ℕ → ℕ → ℕ
optical_size version size = cond (ltb version 5) 0 size

-- what the value rules look at, from the number of each field: version, weight, width, fsType, fsSelection and the optical sizes
unfoldable pub values_of : (ℕ → ℕ) → Values
values_of number =
    record {
      version = number 0;
      weight = number 2;
      width = number 3;
      fstype = number 4;
      fsselection = number 31;
      lower = optical_size (number 0) (number 46);
      upper = optical_size (number 0) (number 47);
    }

-- Rights, the style position and optical sizes, in the words and numbers of documents 01 and 02.
use Rattle.std.specs.Prelude.{ℕ, ◌-◌, cond, [], ◌∷◌, ltb, eqb, get_or, pos, Float}
use Rattle.std.specs.Float.{nan, binary32}
use Rattle.std.specs.Float.Ieee.{of_int, of_bits, div}
use Rattle.os2_rules.specs.Bits.{bit}
use Rattle.os2_style.specs.declared.EmbeddingRights.{EmbeddingRights}
use Rattle.os2_style.specs.declared.EmbeddingRights.TheVariants.{Installable, Restricted, Preview, Editable}
use Rattle.os2_style.specs.declared.OpticalSizes.{OpticalSizes}
use Rattle.os2_style.specs.declared.OpticalSizes.TheVariants.{Every, Upwards, Between}

-- rights by the bit of fsType: "installable (none of bits 1 to 3), restricted (1), preview (2), editable (3)"
abbrev pub rights_number : EmbeddingRights → ℕ
rights_number Installable = 0
rights_number Restricted = 1
rights_number Preview = 2
rights_number Editable = 3

-- "the least restrictive set bit holds": the highest of bits 1 to 3 that is set, 0 where none is
unfoldable pub rights_of : ℕ → ℕ
rights_of fstype = cond (ltb 0 (bit 3 fstype)) 3 (cond (ltb 0 (bit 2 fstype)) 2 (cond (ltb 0 (bit 1 fstype)) 1 0))

-- a whole number as a 32-bit float
abbrev pub float : ℕ → Float
float n = of_int binary32 (pos n)

-- "width classes 1 to 9 being 50, 62.5, 75, 87.5, 100, 112.5, 125, 150, 200": the bits of each literal. Rule 2 keeps other classes out
unfoldable pub percent_of : ℕ → Float
percent_of width =
    get_or
    ( -- 50
    of_bits binary32 0x42480000 ∷
    -- 62.5
    of_bits binary32 0x427a0000 ∷
    -- 75
    of_bits binary32 0x42960000 ∷
    -- 87.5
    of_bits binary32 0x42af0000 ∷
    -- 100
    of_bits binary32 0x42c80000 ∷
    -- 112.5
    of_bits binary32 0x42e10000 ∷
    -- 125
    of_bits binary32 0x42fa0000 ∷
    -- 150
    of_bits binary32 0x43160000 ∷
    -- 200
    of_bits binary32 0x43480000 ∷
    [])
    (width - 1) nan

-- "A point figure is the stored number divided by 20, rounded once to a 32-bit float."
unfoldable pub points : ℕ → Float
points n = div binary32 (float n) (float 20)

-- "every size (0 and 65535), from a size upwards (upper 65535), or between two sizes, in points"
pub data Sizes : Type 0 where
  every : Sizes
  upwards : Float → Sizes
  between : Float → Float → Sizes

unfoldable pub sizes_of : ℕ → ℕ → Sizes
sizes_of lower upper = cond (eqb upper 65535) (cond (eqb lower 0) every (upwards (points lower))) (between (points lower) (points upper))

abbrev pub said_sizes : OpticalSizes → Sizes
said_sizes Every = every
said_sizes (Upwards lower) = upwards lower
said_sizes (Between lower upper) = between lower upper

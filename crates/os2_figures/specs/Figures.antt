-- The figures of an 'OS/2' table's listing as bytes, each from stored whole numbers.
use Rattle.std.specs.Prelude.{ℕ, ◌+◌, ◌-◌, ◌*◌, ◌/◌, ◌%◌, cond, List, [], ◌∷◌, ◌++◌, eqb, get_or, ℤ, pos, nat_abs}
use Prim.Native.String.{String}
use Rattle.std.specs.Int.Signed.{lt_z}
use Rattle.characters.specs.Texts.{codes}
use Rattle.lines.specs.Numerals.{most_digits, decimal}
use Rattle.lines.specs.Lines.{numbered}
use Rattle.os2_style.specs.Style.{Sizes, every, upwards, between}

-- The `..Room` of a text is the most bytes that it has, by the parts that it is put together from.

-- a whole number, with a minus sign where it is negative
unfoldable pub signed_text : ℤ → List ℕ
signed_text x = cond (lt_z x (pos 0)) (codes "-") [] ++ decimal (nat_abs x)

abbrev pub signed_room : ℕ
signed_room = 1 + most_digits

-- so many hundredths, below 100, behind a whole number: a period and one or two digits, without a zero at the end; nothing where there are none
unfoldable pub fraction : ℕ → List ℕ
fraction h =
    cond (eqb h 0) []
    (cond (eqb (h % 10) 0) (numbered "." (h / 10))
    (numbered "." (h / 10) ++ decimal (h % 10)))

abbrev pub fraction_room : ℕ
fraction_room = 1 + most_digits + most_digits

-- a number of hundredths, as the shortest decimal
unfoldable pub figure : ℕ → List ℕ
figure n = decimal (n / 100) ++ fraction (n % 100)

abbrev pub figure_room : ℕ
figure_room = most_digits + fraction_room

-- rights by fsType's bit: "installable (none of bits 1 to 3), restricted (1), preview (2), editable (3)"
unfoldable pub rights_text : ℕ → List ℕ
rights_text k = get_or (codes "installable" ∷ codes "restricted" ∷ codes "preview" ∷ codes "editable" ∷ []) k []

abbrev pub rights_room : ℕ
rights_room = 11

-- "width classes 1 to 9 being 50, 62.5, 75, 87.5, 100, 112.5, 125, 150, 200", in hundredths of a percent
unfoldable pub percent_hundredths : ℕ → ℕ
percent_hundredths width = get_or (5000 ∷ 6250 ∷ 7500 ∷ 8750 ∷ 10000 ∷ 11250 ∷ 12500 ∷ 15000 ∷ 20000 ∷ []) (width - 1) 0

-- weight and width percent, from the weight and the width class. Both floats of the answer are these figures, exactly
unfoldable pub position_text : ℕ → ℕ → List ℕ
position_text weight width = decimal weight ++ codes " " ++ figure (percent_hundredths width)

abbrev pub position_room : ℕ
position_room = most_digits + 1 + figure_room

-- "A point figure is the stored number divided by 20": a twentieth is five hundredths. The float of the answer is this quotient rounded once
unfoldable pub points_text : ℕ → List ℕ
points_text n = figure (n * 5)

-- a text and a point figure behind it
abbrev pub pointed : String → ℕ → List ℕ
pointed text n = codes text ++ points_text n

-- "every size (0 and 65535), from a size upwards (upper 65535), or between two sizes, in points", from the stored lower and upper size
abbrev pub sizes_text : (lower upper : ℕ) → Sizes → List ℕ
sizes_text lower upper every = codes "every size"
sizes_text lower upper (upwards a) = pointed "from " lower ++ codes " upwards"
sizes_text lower upper (between a b) = pointed "between " lower ++ pointed " and " upper

-- `between ` has 8 bytes, ` and ` 5
abbrev pub sizes_room : ℕ
sizes_room = 8 + figure_room + 5 + figure_room

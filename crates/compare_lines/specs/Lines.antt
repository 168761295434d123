-- The lines of a comparison of two tables, each as its bytes. How they read stands in docs/DECISIONS.md.
use Rattle.std.specs.Prelude.{ℕ, cond, List, [], ◌++◌, eqb, ℤ, pos}
use Rattle.std.specs.Int.Signed.{lt_z}
use Rattle.characters.specs.Texts.{codes}
use Rattle.lines.specs.Lines.{refusal_line, too_long}
use Rattle.name_lines.specs.Lines.{key_parts}
use Rattle.os2_figures.specs.Figures.{signed_text, signed_room}
use Rattle.comparing.specs.Comparisons.{Side, Neither, Left, Right, Blamed}

-- The `..Room` of a text is at least as many bytes as it has.

-- what stands before the refusal of a side
abbrev pub side_text : Side → List ℕ
side_text Neither = []
side_text Left = codes "left "
side_text Right = codes "right "

abbrev pub side_room : ℕ
side_room = 6

-- `left refused 17 at 1`, without a side `refused 1`
unfoldable pub blamed_line : Blamed → List ℕ
blamed_line b = side_text b.side ++ refusal_line b.refusal

-- `left too long`
unfoldable pub too_long_line : Side → List ℕ
too_long_line side = side_text side ++ too_long

-- `left`, `right` or `both`, with the four numbers
unfoldable pub which_text : ℕ → List ℕ
which_text which = cond (eqb which 1) (codes "left") (cond (eqb which 2) (codes "right") (codes "both"))

unfoldable pub name_line : ℕ → ℕ → ℕ → ℕ → ℕ → List ℕ
name_line platform encoding language name which = which_text which ++ key_parts platform encoding language name ++ codes "\n"

-- an answer as the 'OS/2' listing writes it, from what it is in a row, 1 a value, 2 absent, 3 not known, and its value
unfoldable pub answer_text : ℤ → ℤ → List ℕ
answer_text kind figure = cond (lt_z kind (pos 2)) (signed_text figure) (cond (lt_z kind (pos 3)) (codes "absent") (codes "not known"))

abbrev pub answer_room : ℕ
answer_room = signed_room

-- the field with both answers
unfoldable pub os2_line : ℤ → ℤ → ℤ → ℤ → ℤ → List ℕ
os2_line field left_kind left_value right_kind right_value =
    signed_text field ++ codes " " ++ answer_text left_kind left_value ++ codes " " ++ answer_text right_kind right_value ++ codes "\n"

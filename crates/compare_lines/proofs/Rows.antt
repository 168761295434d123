-- Lines written out: by computing.
-- Assumes nothing.
use mathlib.Core.Path.{◌≡◌, refl}
use mathlib.Core.List.{List, [], ◌∷◌, map}
use lib.IntN.{pos, negsuc}
use Rattle.characters.specs.Texts.{codes}
use Rattle.outcomes.specs.Outcomes.{bare, carrying}
use Rattle.lines.specs.Numerals.{digits, decimal}
use Rattle.lines.specs.Lines.{too_long}
use Rattle.name_lines.specs.Lines.{key_parts}
use Rattle.os2_figures.specs.Figures.{signed_text}
use Rattle.comparing.specs.Comparisons.{Neither, Left, Right, Blamed, on}
use Rattle.compare_lines.specs.Lines.{blamed_line, too_long_line, which_text, name_line, answer_text, os2_line}

abbrev blames : List Blamed
blames = on Left (carrying 17 1) ∷ on Right (bare 11) ∷ on Neither (bare 1) ∷ on Neither (bare 29) ∷ on Right (carrying 3 7) ∷ []

pub refusals : map blamed_line blames
    ≡ codes "left refused 17 at 1\n" ∷ codes "right refused 11\n" ∷ codes "refused 1\n" ∷ codes "refused 29\n" ∷ codes "right refused 3 at 7\n" ∷ []
unfolding blamed_line decimal digits
refusals = refl

pub too_long_lem : map too_long_line (Left ∷ Right ∷ []) ≡ codes "left too long\n" ∷ codes "right too long\n" ∷ []
unfolding too_long_line too_long
too_long_lem = refl

pub names : name_line 1 0 0 6 1 ∷ name_line 65535 65534 65533 65532 2 ∷ name_line 0 3 0 4 3 ∷ []
    ≡ codes "left 1 0 0 6\n" ∷ codes "right 65535 65534 65533 65532\n" ∷ codes "both 0 3 0 4\n" ∷ []
unfolding name_line which_text key_parts decimal digits
names = refl

pub fields : os2_line (pos 2) (pos 1) (pos 400) (pos 1) (pos 700) ∷ os2_line (pos 46) (pos 2) (pos 0) (pos 1) (pos 160)
    ∷ os2_line (pos 35) (pos 1) (negsuc 249) (pos 2) (pos 0) ∷ os2_line (pos 0) (pos 3) (pos 0) (pos 1) (pos 4294967295) ∷ []
    ≡ codes "2 400 700\n" ∷ codes "46 absent 160\n" ∷ codes "35 -250 absent\n" ∷ codes "0 not known 4294967295\n" ∷ []
unfolding os2_line answer_text signed_text decimal digits
fields = refl

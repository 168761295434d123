-- Figures worked out by hand: points by document 01's rule, and its percentages.
use Rattle.std.specs.Prelude.{ℕ, zero, suc, ◌-◌, ◌≡◌, Bool, true, not, ◌&&◌, List, [], ◌∷◌, ◌++◌, map, eqb, length, get_or, take, pos, negsuc}
use Rattle.std.specs.Float.{binary32}
use Rattle.std.specs.Float.Ieee.{div}
use Rattle.characters.specs.Texts.{codes}
use Rattle.characters.specs.Digits.{reads_from}
use Rattle.os2_style.specs.Style.{float, percent_of, sizes_of}
use Rattle.os2_figures.specs.Figures.{signed_text, fraction, figure, rights_text, percent_hundredths, position_text, points_text, sizes_text}

abbrev pub Signs : Type 0
Signs = map signed_text (pos 0 ∷ pos 4294967295 ∷ negsuc 0 ∷ negsuc 32767 ∷ []) ≡ codes "0" ∷ codes "4294967295" ∷ codes "-1" ∷ codes "-32768" ∷ []

-- stored sizes in points
abbrev pub Points : Type 0
Points =
    map points_text (0 ∷ 1 ∷ 2 ∷ 10 ∷ 19 ∷ 240 ∷ 65534 ∷ [])
    ≡ codes "0" ∷ codes "0.05" ∷ codes "0.1" ∷ codes "0.5" ∷ codes "0.95" ∷ codes "12" ∷ codes "3276.7" ∷ []

-- the hundredths that a fraction reads as, a missing second digit being 0
abbrev pub hundredths_read : List ℕ → ℕ
hundredths_read [] = 0
hundredths_read (period ∷ ds) = reads_from 0 (take 2 (ds ++ codes "0"))

-- each number of hundredths below n reads as itself, and its text has no zero at the end
unfoldable pub fractions_read : ℕ → Bool
fractions_read zero = true
fractions_read (suc h) =
    eqb (hundredths_read (fraction h)) h
    && not (eqb (get_or (fraction h) (length (fraction h) - 1) 0) 48)
    && fractions_read h

abbrev pub Fractions : Type 0
Fractions = fractions_read 100 ≡ true

abbrev pub widths : List ℕ
widths = 1 ∷ 2 ∷ 3 ∷ 4 ∷ 5 ∷ 6 ∷ 7 ∷ 8 ∷ 9 ∷ []

abbrev pub Percents : Type 0
Percents =
    map (λ (w : ℕ). figure (percent_hundredths w)) widths
    ≡ codes "50" ∷ codes "62.5" ∷ codes "75" ∷ codes "87.5" ∷ codes "100" ∷ codes "112.5" ∷ codes "125" ∷ codes "150" ∷ codes "200" ∷ []

-- they are the floats of the answer
abbrev pub SamePercents : Type 0
SamePercents = map (λ (w : ℕ). div binary32 (float (percent_hundredths w)) (float 100)) widths ≡ map percent_of widths

-- rights by fsType's bit
abbrev pub RightsRead : Type 0
RightsRead = map rights_text (0 ∷ 1 ∷ 2 ∷ 3 ∷ []) ≡ codes "installable" ∷ codes "restricted" ∷ codes "preview" ∷ codes "editable" ∷ []

-- weight 400 and width class 5, weight 1 and width class 2, weight 1000 and width class 9
abbrev pub Positions : Type 0
Positions = position_text 400 5 ∷ position_text 1 2 ∷ position_text 1000 9 ∷ [] ≡ codes "400 100" ∷ codes "1 62.5" ∷ codes "1000 200" ∷ []

-- optical sizes as the table stores them, in twentieths of a point
abbrev pub listed_sizes : ℕ → ℕ → List ℕ
listed_sizes lower upper = sizes_text lower upper (sizes_of lower upper)

abbrev pub SizesRead : Type 0
SizesRead =
    listed_sizes 0 65535 ∷ listed_sizes 200 65535 ∷ listed_sizes 160 241 ∷ listed_sizes 0 1 ∷ []
    ≡ codes "every size" ∷ codes "from 10 upwards" ∷ codes "between 8 and 12.05" ∷ codes "between 0 and 0.05" ∷ []

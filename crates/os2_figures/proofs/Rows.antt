-- The worked figures, by computation.
-- Assumes nothing.
use mathlib.Core.Path.{refl}
use lib.Ieee.{of_int, of_bits, div}
use Rattle.os2_style.specs.Style.{percent_of, sizes_of}
use Rattle.lines.specs.Numerals.{digits, decimal}
use Rattle.os2_figures.specs.Figures.{signed_text, fraction, figure, rights_text, percent_hundredths, position_text, points_text}
use Rattle.os2_figures.specs.Examples.{Signs, Points, fractions_read, Fractions, Percents, SamePercents, RightsRead, Positions, SizesRead}

pub signs : Signs
unfolding signed_text digits decimal
signs = refl

pub points : Points
unfolding points_text figure fraction digits decimal
points = refl

pub fractions : Fractions
unfolding fractions_read fraction digits decimal
fractions = refl

pub percents : Percents
unfolding percent_hundredths figure fraction digits decimal
percents = refl

pub same_percents : SamePercents
unfolding percent_hundredths percent_of of_int of_bits div
same_percents = refl

pub rights_read : RightsRead
unfolding rights_text
rights_read = refl

pub positions : Positions
unfolding position_text percent_hundredths figure fraction digits decimal
positions = refl

pub sizes_read : SizesRead
unfolding sizes_of points_text figure fraction digits decimal
sizes_read = refl

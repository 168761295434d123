-- The worked listings, by computation.
-- Assumes nothing.
use mathlib.Core.Path.{refl}
use Rattle.outcomes.specs.Firsts.{when, ◌then◌, first_among}
use Rattle.outcomes.specs.Outcomes.{unless}
use Rattle.bigendian.specs.Numbers.{number, stored}
use Rattle.level.specs.Sizes.{table_size}
use Rattle.os2_rules.specs.Bits.{bits, bit}
use Rattle.os2_rules.specs.Tests.{weight_broken, width_broken, type_broken, rights_broken, selection_broken, regular_broken, sizes_broken, broken, verdict_of}
use Rattle.os2_fields.specs.Catalogue.{catalogue, field_of}
use Rattle.os2_fields.specs.Fields.{raw_in, signed_of, value_in, values_of}
use Rattle.os2_style.specs.Style.{rights_of, sizes_of}
use Rattle.os2_acceptance.specs.Acceptance.{under_two, under_size, short, ruling, judged, checked}
use Rattle.os2_questions.specs.Questions.{since, on_whole}
use Rattle.os2_questions.specs.Cases.{above, unknown, case_of}
use Rattle.os2_answers.specs.Asking.{value_of, given}
use Rattle.lines.specs.Lines.{listed}
use Rattle.lines.specs.Numerals.{digits, decimal}
use Rattle.os2_figures.specs.Figures.{signed_text, fraction, figure, rights_text, percent_hundredths, position_text, points_text}
use Rattle.os2_lines.specs.Listings.{question_of, name_of, line_at, lines_below, listing_of}
use Rattle.os2_lines.specs.Examples.{Listed, LastOnes}

pub listings_hold : Listed
unfolding when ◌then◌ first_among unless number stored table_size bits bit weight_broken width_broken type_broken rights_broken selection_broken regular_broken sizes_broken
    broken verdict_of catalogue field_of raw_in signed_of value_in values_of rights_of under_two under_size short ruling judged checked since on_whole value_of above unknown case_of given
    listed digits decimal signed_text fraction figure rights_text percent_hundredths position_text question_of name_of line_at lines_below listing_of
listings_hold = refl

pub last_lines_hold : LastOnes
unfolding number stored bits bit catalogue field_of raw_in signed_of value_in rights_of sizes_of since on_whole value_of above unknown case_of given
    digits decimal signed_text fraction figure rights_text percent_hundredths position_text points_text question_of name_of line_at
last_lines_hold = refl

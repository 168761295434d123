-- The worked comparisons, by computing.
-- Assumes nothing.
use mathlib.Core.Path.{refl}
use Rattle.outcomes.specs.Firsts.{when, ◌then◌, first_among}
use Rattle.bigendian.specs.Numbers.{number, stored}
use Rattle.level.specs.Sizes.{table_size}
use Rattle.os2_rules.specs.Bits.{bits, bit}
use Rattle.os2_rules.specs.Tests.{weight_broken, width_broken, type_broken, rights_broken, selection_broken, regular_broken, sizes_broken, broken, verdict_of}
use Rattle.os2_fields.specs.Catalogue.{catalogue, field_of}
use Rattle.os2_fields.specs.Fields.{raw_in, signed_of, value_in, values_of}
use Rattle.os2_acceptance.specs.Acceptance.{under_two, under_size, short, ruling, judged}
use Rattle.os2_questions.specs.Cases.{above, unknown, case_of}
use Rattle.comparing.specs.Lists.{entry_of, list_below}
use Rattle.comparing.specs.Rooms.{rows_of, is_too_many, front}
use Rattle.comparing.specs.Comparisons.{of, blame, answer_of, room_after}
use Rattle.os2_compare.specs.Differences.{answer_in, same_figure, differ, difference_at, differences, row_of}
use Rattle.os2_compare.specs.Comparisons.{level_refusal, blame_of, compared_of, room_of}
use Rattle.os2_compare.specs.Examples.{RowsHold, AnswersHold, RoomsHold}

pub rows_hold : RowsHold
unfolding when number stored catalogue field_of raw_in signed_of value_in above unknown case_of entry_of list_below answer_in same_figure differ difference_at differences row_of
rows_hold = refl

pub answers_hold : AnswersHold
unfolding when ◌then◌ first_among number stored table_size bits bit weight_broken width_broken type_broken rights_broken selection_broken regular_broken sizes_broken
    broken verdict_of catalogue field_of raw_in signed_of value_in values_of under_two under_size short ruling judged above unknown case_of
    entry_of list_below is_too_many of blame answer_of answer_in same_figure differ difference_at differences level_refusal blame_of compared_of
answers_hold = refl

pub rooms_hold : RoomsHold
unfolding when ◌then◌ first_among number stored table_size bits bit weight_broken width_broken type_broken rights_broken selection_broken regular_broken sizes_broken
    broken verdict_of catalogue field_of raw_in signed_of value_in values_of under_two under_size short ruling judged above unknown case_of
    entry_of list_below rows_of is_too_many front of blame room_after answer_in same_figure differ difference_at differences row_of level_refusal blame_of room_of
rooms_hold = refl

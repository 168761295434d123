-- What the definitions give of Ask 1's tables, by computing.
-- Assumes nothing.
use mathlib.Core.Path.{refl}
use Rattle.bigendian.specs.Numbers.{number, stored}
use Rattle.outcomes.specs.Firsts.{when, ◌then◌, first_among}
use Rattle.outcomes.specs.Outcomes.{unless}
use Rattle.level.specs.Sizes.{table_size}
use Rattle.os2_rules.specs.Bits.{bit, bits}
use Rattle.os2_rules.specs.Tests.{weight_broken, width_broken, type_broken, rights_broken, selection_broken, regular_broken, sizes_broken, broken, verdict_of}
use Rattle.os2_fields.specs.Catalogue.{catalogue, field_of}
use Rattle.os2_fields.specs.Fields.{raw_in, values_of}
use Rattle.os2_style.specs.Style.{rights_of}
use Rattle.os2_acceptance.specs.Acceptance.{under_two, under_size, short, ruling, judged, checked}
use Rattle.os2_questions.specs.Questions.{own_refusal, since, on_whole}
use Rattle.os2_questions.specs.Cases.{above, unknown, case_of}
use Rattle.os2_answers.specs.Asking.{value_of, given, before_table, ask}
use Rattle.worked_examples.specs.TwoBits.{Checks, RightsAnswers}

pub two_bits : Checks × RightsAnswers
unfolding number stored when ◌then◌ first_among unless table_size bit bits weight_broken width_broken type_broken rights_broken selection_broken regular_broken
    sizes_broken broken verdict_of catalogue field_of raw_in values_of rights_of under_two under_size short ruling judged checked own_refusal since on_whole above unknown
    case_of value_of given before_table ask
two_bits = (refl, refl)

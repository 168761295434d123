-- What the definitions give of Ask 3's tables, by computing.
-- Assumes nothing.
use mathlib.Core.Path.{refl}
use Rattle.bigendian.specs.Numbers.{number}
use Rattle.outcomes.specs.Firsts.{when, ◌then◌, first_among}
use Rattle.outcomes.specs.Outcomes.{unless}
use Rattle.name_layout.specs.Layout.{tag_count, tags_at}
use Rattle.name_layout.specs.Keys.{key_of, same, below}
use Rattle.name_tests.specs.Tests.{is_too_short, in_other_format, records_pass_end, tags_pass_end, misplaced}
use Rattle.name_tests.specs.Tests.{string_passes, starts_beyond, runs_over, forbidden, is_language_refused, below_before, equals_before}
use Rattle.name.specs.Acceptance.{layout_fault, record_fault, tag_fault, faults}
use Rattle.worked_examples.specs.Records.{Ends, Starts, Empty, Tags, Parts, Order, Together}

pub faulty_records : Ends × Starts × Empty × Tags × Parts × Order × Together
unfolding number when ◌then◌ first_among unless tag_count tags_at key_of same below is_too_short in_other_format records_pass_end tags_pass_end misplaced string_passes starts_beyond runs_over
    forbidden is_language_refused below_before equals_before layout_fault record_fault tag_fault faults
faulty_records = (refl, refl, refl, refl, refl, refl, refl)

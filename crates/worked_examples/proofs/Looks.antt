-- What the definitions give of Ask 8's keys and tables, by computing.
-- Assumes nothing.
use mathlib.Core.Path.{refl}
use Rattle.bigendian.specs.Numbers.{number}
use Rattle.outcomes.specs.Firsts.{when, ◌then◌, first_among}
use Rattle.outcomes.specs.Outcomes.{unless}
use Rattle.name_layout.specs.Layout.{tag_count, tags_at}
use Rattle.name_layout.specs.Keys.{key_of, same, below}
use Rattle.name_tests.specs.Tests.{is_too_short, in_other_format, records_pass_end, tags_pass_end, misplaced}
use Rattle.name_tests.specs.Tests.{string_passes, starts_beyond, runs_over, forbidden, is_language_refused, below_before, equals_before}
use Rattle.name.specs.Acceptance.{layout_fault, record_fault, tag_fault, faults}
use Rattle.name_search.specs.Steps.{turn, looks}
use Rattle.name_search.specs.Searches.{looks_for}
use Rattle.name_lookup.specs.Answers.{reported, looked_of}
use Rattle.worked_examples.specs.Looks.{Sizes, Parts, Many, Keys, Gaps, Tagged, Ends, records_of, Own, Above₀, Above₁, Two}

pub steps_counted : Sizes × Parts × Many
unfolding same below turn looks
steps_counted = (refl, ((refl, refl), (refl, refl), (refl, refl)), refl)

pub reports : Keys × Gaps × Tagged × Ends
unfolding number when ◌then◌ first_among unless tag_count tags_at key_of same below
    is_too_short in_other_format records_pass_end tags_pass_end misplaced string_passes starts_beyond runs_over forbidden is_language_refused below_before equals_before
    layout_fault record_fault tag_fault faults turn looks looks_for reported looked_of records_of
reports = (refl, refl, refl, (refl, refl, refl))

pub reports_above : Own × Above₀ × Above₁ × Two
unfolding number when ◌then◌ first_among tag_count tags_at key_of same below
    is_too_short in_other_format records_pass_end tags_pass_end misplaced string_passes starts_beyond runs_over forbidden is_language_refused below_before equals_before
    layout_fault record_fault tag_fault faults turn looks looks_for reported looked_of records_of
reports_above = (
  (refl, refl),
  ((refl, refl, refl, refl), (refl, refl, refl, refl), (refl, refl, refl, refl)),
  ((refl, refl, refl, refl), (refl, refl, refl, refl), (refl, refl, refl, refl)),
  refl,
)

-- What the definitions give of Ask 4's tables, by computing.
-- Assumes nothing.
use mathlib.Core.Path.{refl}
use Rattle.bigendian.specs.Numbers.{number}
use Rattle.characters.specs.Strings.{char, odd}
use Rattle.characters.specs.Digits.{digit}
use Rattle.charset.specs.Allowed.{allowed}
use Rattle.outcomes.specs.Firsts.{when, ◌then◌, first_among}
use Rattle.outcomes.specs.Outcomes.{unless, found_or}
use Rattle.name_layout.specs.Layout.{tag_count, tags_at, bytes_of}
use Rattle.name_layout.specs.Keys.{key_of, same, below}
use Rattle.name_tests.specs.Tests.{is_too_short, in_other_format, records_pass_end, tags_pass_end, misplaced}
use Rattle.name_tests.specs.Tests.{string_passes, starts_beyond, runs_over, forbidden, is_language_refused, below_before, equals_before}
use Rattle.name.specs.Acceptance.{layout_fault, record_fault, tag_fault, faults}
use Rattle.name_search.specs.Searches.{record_with, text_of}
use Rattle.name_lookup.specs.Answers.{lookup_of}
use Rattle.version_text.specs.Versions.{version_in, number_at, is_number, may_start, small, group_figure, figure, group_end, digits, period}
use Rattle.name_answers.specs.Forms.{too_few, is_too_many, wrong_count, other_at, ill_formed, differ_at, differ}
use Rattle.name_answers.specs.Names.{from_strings, from_both, postscript_of}
use Rattle.name_answers.specs.Versions.{read_from, from_records, version_of}
use Rattle.worked_examples.specs.Which.{Lookups, Names, Versions}

pub which_record : Lookups × Names × Versions
unfolding number char odd digit allowed when ◌then◌ first_among unless found_or tag_count tags_at bytes_of key_of same below
    is_too_short in_other_format records_pass_end tags_pass_end misplaced string_passes starts_beyond runs_over forbidden is_language_refused below_before equals_before
    layout_fault record_fault tag_fault faults record_with text_of lookup_of
    version_in number_at is_number may_start small group_figure figure group_end digits period
    too_few is_too_many wrong_count other_at ill_formed differ_at differ from_strings from_both postscript_of read_from from_records version_of
which_record = (refl, refl, refl)

-- Document 01's listings and lines, by computation.
-- Assumes nothing.
use mathlib.Core.Path.{◌≡◌, refl}
use mathlib.Core.List.{map}
use Rattle.outcomes.specs.Firsts.{when, ◌then◌, first_among}
use Rattle.outcomes.specs.Outcomes.{unless, found_or}
use Rattle.bigendian.specs.Numbers.{number}
use Rattle.characters.specs.Strings.{char, odd}
use Rattle.characters.specs.Digits.{digit}
use Rattle.charset.specs.Allowed.{allowed}
use Rattle.name_layout.specs.Layout.{tag_count, tags_at, bytes_of}
use Rattle.name_layout.specs.Keys.{key_of, same, below}
use Rattle.name_tests.specs.Tests.{is_too_short, in_other_format, records_pass_end, tags_pass_end, misplaced}
use Rattle.name_tests.specs.Tests.{string_passes, starts_beyond, runs_over, forbidden, is_language_refused, below_before, equals_before}
use Rattle.name.specs.Acceptance.{layout_fault, record_fault, tag_fault, faults}
use Rattle.name_search.specs.Searches.{record_with, text_of}
use Rattle.version_text.specs.Versions.{version_in, number_at, is_number, may_start, small, group_figure, figure, group_end, digits as run, period}
use Rattle.name_answers.specs.Forms.{too_few, is_too_many, wrong_count, other_at, ill_formed, differ_at, differ}
use Rattle.name_answers.specs.Names.{from_strings, from_both, postscript_of}
use Rattle.name_answers.specs.Versions.{read_from, from_records, version_of}
use Rattle.lines.specs.Numerals.{digits, decimal}
use Rattle.lines.specs.Lines.{listed}
use Rattle.name_lines.specs.Lines.{head_line, key_parts, record_line, postscript_line, version_line}
use Rattle.name_lines.specs.Listings.{record_texts, listing_of}
use Rattle.name_lines.specs.Examples.{tables, listings, other_lines, other_texts}

pub listings_hold : map listing_of tables ≡ listings
unfolding when ◌then◌ first_among unless found_or number char odd digit allowed tag_count tags_at bytes_of key_of same below
    is_too_short in_other_format records_pass_end tags_pass_end misplaced starts_beyond runs_over string_passes forbidden is_language_refused below_before equals_before
    layout_fault record_fault tag_fault faults
    record_with text_of too_few is_too_many wrong_count other_at ill_formed differ_at differ from_strings from_both postscript_of
    version_in number_at is_number may_start small group_figure figure group_end run period read_from from_records version_of
    digits decimal listed head_line key_parts record_line postscript_line version_line record_texts listing_of
listings_hold = refl

pub lines_hold : other_lines ≡ other_texts
unfolding digits decimal postscript_line version_line
lines_hold = refl

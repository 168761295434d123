-- Document 01's starred rows hold, whichever key is looked up: what the definitions give of each row computes to what document 01 says.
-- A wrong row's error has the row with its number.
-- Assumes nothing.
use mathlib.Core.Path.{◌≡◌, refl, ap, ◌∙◌}
use mathlib.Core.List.{List, [], ◌∷◌, map}
use Rattle.bigendian.specs.Numbers.{number, stored}
use Rattle.characters.specs.Strings.{char, odd}
use Rattle.characters.specs.Digits.{digit}
use Rattle.outcomes.specs.Firsts.{when, ◌then◌, first_among}
use Rattle.outcomes.specs.Outcomes.{unless, found_or}
use Rattle.level.specs.Sizes.{table_size}
use Rattle.os2_rules.specs.Bits.{bit, bits}
use Rattle.os2_rules.specs.Tests.{weight_broken, width_broken, type_broken, rights_broken, selection_broken, regular_broken, sizes_broken, broken, verdict_of}
use Rattle.os2_fields.specs.Catalogue.{catalogue, field_of}
use Rattle.os2_fields.specs.Fields.{raw_in, values_of}
use Rattle.os2_acceptance.specs.Acceptance.{under_two, under_size, short, ruling, judged, checked}
use Rattle.os2_questions.specs.Questions.{own_refusal, since, on_whole}
use Rattle.os2_questions.specs.Cases.{above, unknown, case_of}
use Rattle.os2_answers.specs.Asking.{value_of, given, before_table, ask}
use Rattle.name_layout.specs.Keys.{Key}
use Rattle.name_layout.specs.Layout.{tag_count, tags_at}
use Rattle.name_tests.specs.Tests.{is_too_short, in_other_format, records_pass_end, tags_pass_end, misplaced}
use Rattle.name.specs.Acceptance.{layout_fault, faults}
use Rattle.name_search.specs.Searches.{record_with}
use Rattle.name_lookup.specs.Answers.{lookup_of}
use Rattle.version_text.specs.Versions.{version_in, number_at, is_number, may_start, small, group_figure, figure, group_end, digits, period}
use Rattle.worked_examples.specs.Rows.{Found, Row, rows, found, said}

module _ (k : Key) where
  -- each row by itself
  abbrev Each : List Row → Type 0
  Each [] = Unit {0}
  Each (r ∷ rs) = (found k r ≡ said r) × Each rs

  together : (rs : List Row) → Each rs → map (found k) rs ≡ map said rs
  together [] h = refl
  together (r ∷ rs) h = ap (λ (x : List Found). x ∷ map (found k) rs) h.0 ∙ ap (λ (xs : List (List Found)). said r ∷ xs) (together rs h.1)

pub starred : (k : Key) → map (found k) rows ≡ map said rows
unfolding number stored char odd digit when ◌then◌ first_among unless found_or table_size bit bits weight_broken width_broken type_broken rights_broken
    selection_broken regular_broken sizes_broken broken verdict_of catalogue field_of raw_in under_two under_size short values_of ruling judged checked own_refusal since
    on_whole value_of above unknown case_of given before_table ask tag_count tags_at is_too_short in_other_format records_pass_end tags_pass_end misplaced layout_fault faults
    record_with lookup_of version_in number_at is_number may_start small group_figure figure group_end digits period
starred k = together k rows (refl, (refl, (refl, (refl, (refl, (refl, (refl, (refl, (refl, (refl, (refl, tt)))))))))))

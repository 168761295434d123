-- What the definitions give of Ask 7's tables, by computing.
-- Assumes nothing.
use mathlib.Core.Path.{refl}
use Rattle.bigendian.specs.Numbers.{number, stored}
use Rattle.outcomes.specs.Firsts.{when, ◌then◌, first_among}
use Rattle.outcomes.specs.Outcomes.{unless, found_or}
use Rattle.level.specs.Sizes.{table_size}
use Rattle.os2_rules.specs.Bits.{bit, bits}
use Rattle.os2_rules.specs.Tests.{weight_broken, width_broken, type_broken, rights_broken, selection_broken, regular_broken, sizes_broken, broken, verdict_of}
use Rattle.os2_fields.specs.Catalogue.{catalogue, field_of}
use Rattle.os2_fields.specs.Fields.{raw_in, value_in, values_of}
use Rattle.os2_acceptance.specs.Acceptance.{under_two, under_size, short, ruling, judged}
use Rattle.os2_questions.specs.Questions.{own_refusal, since, on_whole}
use Rattle.os2_questions.specs.Cases.{above, unknown, case_of}
use Rattle.os2_answers.specs.Asking.{value_of, given, before_table, ask}
use Rattle.name_layout.specs.Layout.{tag_count, tags_at, bytes_of}
use Rattle.name_layout.specs.Keys.{key_of, same, below}
use Rattle.name_tests.specs.Tests.{is_too_short, in_other_format, records_pass_end, tags_pass_end, misplaced}
use Rattle.name_tests.specs.Tests.{string_passes, starts_beyond, runs_over, forbidden, is_language_refused, below_before, equals_before}
use Rattle.name.specs.Acceptance.{layout_fault, record_fault, tag_fault, faults}
use Rattle.name_search.specs.Searches.{record_with, text_of}
use Rattle.name_lookup.specs.Answers.{lookup_of}
use Rattle.face.specs.Reading.{newer, os2_fault, face_of, or_else, family_of, unfit, named, face_in}
use Rattle.chooser.specs.Calls.{taken, put, no_such_slot, before_tables, load_of, emptying, unload_of, after_load, after_unload}
use Rattle.worked_examples.specs.Loads.{Families, Lengths, Styles, Obliques, TooLong, OtherKeys, Orders, Newer, Versions, Unloads, After}

pub loads : Families × Lengths × Styles × Obliques × TooLong × OtherKeys × Orders × Newer × Versions × Unloads × After
unfolding number stored when ◌then◌ first_among unless found_or table_size bit bits weight_broken width_broken type_broken rights_broken selection_broken regular_broken
    sizes_broken broken verdict_of catalogue field_of raw_in value_in values_of under_two under_size short ruling judged own_refusal since on_whole above unknown case_of value_of given
    before_table ask tag_count tags_at bytes_of key_of same below is_too_short in_other_format records_pass_end tags_pass_end misplaced string_passes starts_beyond runs_over forbidden
    is_language_refused below_before equals_before layout_fault record_fault tag_fault faults record_with text_of lookup_of newer os2_fault face_of or_else family_of unfit named face_in
    taken put no_such_slot before_tables load_of emptying unload_of after_load after_unload
loads = (refl, refl, refl, refl, refl, refl, refl, refl, refl, refl, refl)

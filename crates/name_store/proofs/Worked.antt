-- By computing, but for a text at any start: the bytes before it are as many as its start.
-- Assumes nothing.
use mathlib.Core.Path.{refl, ◌∙◌, ap}
use mathlib.Core.List.{◌++◌}
use lib.ListN.{length, take}
use lib.Seq.{take_at, drop_at}
use Rattle.outcomes.specs.Firsts.{when, ◌then◌, first_among}
use Rattle.outcomes.specs.Outcomes.{unless}
use Rattle.name_layout.specs.Keys.{same, below}
use Rattle.name_tests.specs.Tests.{forbidden}
use Rattle.name_store.specs.Entries.{text_for, offset_for}
use Rattle.name_store.specs.Tables.{records_of, strings_of, table_of}
use Rattle.name_store.specs.Writing.{is_too_many, passes_pool, language_bad, below_before, equals_before, is_too_far, has_no_room, entry_fault, unwritten, write_of, room_after}
use Rattle.name_store.specs.Examples.{TablesWritten, Answers}

pub tables_written : TablesWritten
unfolding table_of records_of strings_of text_for offset_for room_after unwritten is_too_many passes_pool language_bad below_before equals_before is_too_far has_no_room entry_fault forbidden same below first_among when ◌then◌
tables_written = record {
  of_three = refl;
  of_twice = refl;
  of_odd = refl;
  of_none = refl;
  room_of_none = refl;
  room_of_five = refl;
  room_of_three = refl;
  room_of_fault = refl;
  of_part = λ a b c. ap (take (length b)) (drop_at a (b ++ c) (length a) refl) ∙ take_at b c (length b) refl;
}

pub answers : Answers
unfolding write_of unwritten is_too_many passes_pool language_bad below_before equals_before is_too_far has_no_room entry_fault offset_for forbidden same below first_among when ◌then◌ unless
answers = record {
  enough = refl;
  one_short = refl;
  none_enough = refl;
  none_short = refl;
  odd = refl;
  much_room = refl;
  too_many = refl;
  not_too_many = refl;
  at_end = refl;
  past_end = refl;
  empty_at_end = refl;
  empty_past_end = refl;
  no_pool = refl;
  far_start = refl;
  no_wrapping = refl;
  no_wrapping_over = refl;
  last_plain = refl;
  language = refl;
  platform_239 = refl;
  platform_240 = refl;
  platform_255 = refl;
  platform_256 = refl;
  key_below = refl;
  key_equal = refl;
  allowed_equal = refl;
  platform_first = refl;
  encoding_first = refl;
  encoding_below = refl;
  offset_65535 = refl;
  offset_65536 = refl;
  pool_language = refl;
  pool_below = refl;
  language_below = refl;
  pool_far = refl;
  language_far = refl;
  below_far = refl;
  equal_far = refl;
  below_then_pool = refl;
  far_then_pool = refl;
  far_then_equal = refl;
  language_before_room = refl;
  fault_before_room = refl;
}

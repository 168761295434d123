-- Document 01, "Order", for 'name': "10, 11, 12, 13, 14; then records from 0 upward, at each 15, 18, 17; then tags from 0 upward, 16"; and document 02, Ask 3:
-- "27 stands beside 15 in the order, 19 beside 17".
use Rattle.std.specs.Prelude.{ℕ, List}
use Rattle.std.proofs.Math.Option.{Option}
use Rattle.outcomes.specs.Firsts.{when, ◌then◌, first_among}
use Rattle.outcomes.specs.Outcomes.{Refusal, bare, carrying, Outcome, accepted, unless}
use Rattle.name_layout.specs.Layout.{count, text_at, tag_count, tag_at}
use Rattle.name_tests.specs.Tests.{is_too_short, in_other_format, records_pass_end, tags_pass_end, misplaced}
use Rattle.name_tests.specs.Tests.{string_passes, starts_beyond, runs_over, is_language_refused, below_before, equals_before}

-- "10, 11, 12, 13, 14"
unfoldable pub layout_fault : List ℕ → Option Refusal
layout_fault t =
    when (is_too_short t) (bare 10)
    then when (in_other_format t) (bare 11)
    then when (records_pass_end t) (bare 12)
    then when (tags_pass_end t) (bare 13)
    then when (misplaced t) (bare 14)

-- "at each 15, 18, 17", "27 .. beside 15", "19 beside 17"
unfoldable pub record_fault : List ℕ → ℕ → Option Refusal
record_fault t i =
    when (starts_beyond t (text_at i)) (carrying 15 i)
    then when (runs_over t (text_at i)) (carrying 27 i)
    then when (is_language_refused t i) (carrying 18 i)
    then when (below_before t i) (carrying 17 i)
    then when (equals_before t i) (carrying 19 i)

-- "then tags from 0 upward, 16"
unfoldable pub tag_fault : List ℕ → ℕ → Option Refusal
tag_fault t i = when (string_passes t (tag_at t i)) (carrying 16 i)

-- the whole order
unfoldable pub faults : List ℕ → Option Refusal
faults t =
    layout_fault t
    then first_among (record_fault t) (count t)
    then first_among (tag_fault t) (tag_count t)

-- what the check of a table says
abbrev pub check_of : List ℕ → Outcome (Unit {0})
check_of t = unless (faults t) accepted

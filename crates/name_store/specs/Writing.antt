-- Document 02, Ask 5: "Refusals, in order: 30 more than 5,460 entries; per entry, carrying its number, 31 start plus length past the pool's end, 18 (format 0
-- rule), 17 and 19, then 32 offset above 65,535; last 33 not enough room; nothing is written on any of them." Each test, the order, and what is left.
use Rattle.std.specs.Prelude.{ℕ, ◌-◌, Bool, ◌&&◌, List, ◌++◌, ltb, length, drop}
use Rattle.std.proofs.Math.Option.{Option, none, some}
use Rattle.outcomes.specs.Firsts.{when, ◌then◌, first_among}
use Rattle.outcomes.specs.Outcomes.{Refusal, bare, carrying, Outcome, answered, unless}
use Rattle.name_layout.specs.Keys.{same, below}
use Rattle.name_tests.specs.Tests.{forbidden}
use Rattle.name_store.specs.declared.Entry.{Entry}
use Rattle.name_store.specs.Entries.{entry_at, key_for, text_end, offset_for, size_for}
use Rattle.name_store.specs.Tables.{table_of}

-- ---- the tests

-- 30: "more than 5,460 entries"
unfoldable pub is_too_many : List Entry → Bool
is_too_many es = ltb 5460 (length es)

-- 31: "start plus length past the pool's end"; p is the pool's length
unfoldable pub passes_pool : ℕ → Entry → Bool
passes_pool p e = ltb p (text_end e)

-- 18: "(format 0 rule)", that of the reader, with no tags
unfoldable pub language_bad : Entry → Bool
language_bad e = forbidden 0 0 e.platform e.language

-- 17: a key below the one before
unfoldable pub below_before : List Entry → ℕ → Bool
below_before es i = ltb 0 i && below (key_for (entry_at es i)) (key_for (entry_at es (i - 1)))

-- 19: a key equal to it
unfoldable pub equals_before : List Entry → ℕ → Bool
equals_before es i = ltb 0 i && same (key_for (entry_at es i)) (key_for (entry_at es (i - 1)))

-- 32: "offset above 65,535"
unfoldable pub is_too_far : List Entry → ℕ → Bool
is_too_far es i = ltb 65535 (offset_for es i)

-- 33: "not enough room"; r is the room's length
unfoldable pub has_no_room : List Entry → ℕ → Bool
has_no_room es r = ltb r (size_for es)

-- ---- the order

-- "per entry, carrying its number, 31 .., 18 .., 17 and 19, then 32"
unfoldable pub entry_fault : List Entry → ℕ → ℕ → Option Refusal
entry_fault es p i =
    when (passes_pool p (entry_at es i)) (carrying 31 i)
    then when (language_bad (entry_at es i)) (carrying 18 i)
    then when (below_before es i) (carrying 17 i)
    then when (equals_before es i) (carrying 19 i)
    then when (is_too_far es i) (carrying 32 i)

-- "30 ..; per entry ..; last 33"
unfoldable pub unwritten : List Entry → ℕ → ℕ → Option Refusal
unwritten es p r =
    when (is_too_many es) (bare 30)
    then first_among (entry_fault es p) (length es)
    then when (has_no_room es r) (bare 33)

-- ---- what is left

-- "On success it answers the table's length"
unfoldable pub write_of : List Entry → ℕ → ℕ → Outcome ℕ
write_of es p r = unless (unwritten es p r) (answered (size_for es))

-- "nothing is written" where there is a refusal
abbrev pub room_with : Option Refusal → List ℕ → List ℕ → List ℕ
room_with (some r) held written = held
room_with none held written = written

-- else the table, "and bytes past that are untouched"
unfoldable pub room_after : List Entry → List ℕ → List ℕ → List ℕ
room_after es pool room = room_with (unwritten es (length pool) (length room)) room (table_of pool es ++ drop (size_for es) room)

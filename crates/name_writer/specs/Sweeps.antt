-- How the writer goes, as one work that is carried from entry to entry: through the entries in turn to check them, and then through them in turn to write them.
-- Its answer and its room are held to it (`write`, by `kept_word`); where the code stops at a refusal, the sweeps go on and do nothing more.
use Rattle.std.specs.Prelude.{ℕ, zero, suc, ◌+◌, ◌≤◌, ◌<◌, ◌≡◌, cond, ◌&&◌, List, ltb, eqb, length}
use Rattle.std.proofs.Math.Option.{Option, none, some}
use Rattle.std.proofs.lemmas.List.Edits.{sets}
use Rattle.outcomes.specs.Firsts.{when, ◌then◌}
use Rattle.outcomes.specs.Outcomes.{Refusal, bare, carrying, Outcome, answered, unless}
use Rattle.name_layout.specs.Layout.{record_at}
use Rattle.name_layout.specs.Keys.{packed}
use Rattle.name_store.specs.declared.Entry.{Entry}
use Rattle.name_store.specs.Entries.{entry_at, key_for, text_end, text_for}
use Rattle.name_store.specs.Tables.{front_for, record_for}
use Rattle.name_store.specs.Writing.{passes_pool, language_bad}

-- what is carried from entry to entry: the stage, the entry that a refusal carries, the key of the entry before, the offset of the next string, and the number of
-- entries
pub record Work : Type 0 where
  pub stage : ℕ
  pub entry : ℕ
  pub key : ℕ
  pub offset : ℕ
  pub count : ℕ

-- the bytes of the room, and the work
abbrev pub State : Type 0
State = List ℕ × Work

-- the work at a stage: 0 while entries are checked, 1 while they are written, else the number of the refusal that has ended it
abbrev pub work_at : ℕ → ℕ → ℕ → ℕ → ℕ → Work
work_at stage entry key offset count = record { stage = stage; entry = entry; key = key; offset = offset; count = count }

-- ---- one entry

-- the first fault of entry i, behind the key before it and at an offset
unfoldable pub fault_of : ℕ → ℕ → ℕ → ℕ → Entry → Option Refusal
fault_of p key offset i e =
    when (passes_pool p e) (carrying 31 i)
    then when (language_bad e) (carrying 18 i)
    then when (ltb 0 i && ltb (packed (key_for e)) key) (carrying 17 i)
    then when (ltb 0 i && eqb (packed (key_for e)) key) (carrying 19 i)
    then when (ltb 65535 offset) (carrying 32 i)

-- checked: with no fault the next string starts behind this one
unfoldable pub checked_with : Option Refusal → Work → ℕ → Entry → Work
checked_with none w i e = work_at 0 0 (packed (key_for e)) (w.offset + e.length) w.count
checked_with (some x) w i e = work_at x.number i w.key w.offset w.count

abbrev pub checked_of : ℕ → Work → ℕ → Entry → Work
checked_of p w i e = checked_with (fault_of p w.key w.offset i e) w i e

-- written: its string, and its record
unfoldable pub put_of : List ℕ → ℕ → Entry → State → State
put_of pool i e s = (
  sets (sets s.0 (record_at s.1.count + s.1.offset) (text_for pool e)) (record_at i) (record_for e s.1.offset),
  work_at 1 0 s.1.key (s.1.offset + e.length) s.1.count,
)

-- in its turn
unfoldable pub visited : List ℕ → ℕ → Entry → State → State
visited pool i e s =
    cond (eqb s.1.stage 0) (s.0, checked_of (length pool) s.1 i e)
    (cond (eqb s.1.stage 1) (put_of pool i e s)
    s)

-- ---- all of them

-- the first n entries in turn
unfoldable pub sweep : List Entry → List ℕ → ℕ → State → State
sweep es pool zero s = s
sweep es pool (suc n) s = visited pool n (entry_at es n) (sweep es pool n s)

-- before the first, of so many
unfoldable pub started : ℕ → Work
started n = cond (ltb 5460 n) (work_at 30 0 0 0 0) (work_at 0 0 0 0 n)

-- between the two sweeps: 33, or the front of the table
abbrev fronted_of : State → State
fronted_of s =
    cond (ltb (length s.0) (record_at s.1.count + s.1.offset))
    (s.0, work_at 33 0 s.1.key s.1.offset s.1.count)
    (sets s.0 0 (front_for s.1.count), work_at 1 0 s.1.key 0 s.1.count)

unfoldable pub begun : State → State
begun s = cond (eqb s.1.stage 0) (fronted_of s) s

-- after the last: what a stage says
unfoldable pub stage_says : ℕ → ℕ → Option Refusal
stage_says stage entry =
    when (eqb stage 30) (bare 30)
    then when (eqb stage 31) (carrying 31 entry)
    then when (eqb stage 18) (carrying 18 entry)
    then when (eqb stage 17) (carrying 17 entry)
    then when (eqb stage 19) (carrying 19 entry)
    then when (eqb stage 32) (carrying 32 entry)
    then when (eqb stage 33) (bare 33)

unfoldable pub finished : Work → Outcome ℕ
finished w = unless (stage_says w.stage w.entry) (answered (record_at w.count + w.offset))

-- both sweeps
abbrev pub checked_all : List Entry → List ℕ → List ℕ → State
checked_all es pool room = sweep es pool (length es) (room, started (length es))

abbrev pub written_all : List Entry → List ℕ → List ℕ → State
written_all es pool room = sweep es pool (length es) (begun (checked_all es pool room))

-- ---- what a turn asks

-- what lets entry i be written
pub record Puts (pool room : ℕ) (w : Work) (i : ℕ) (e : Entry) : Type 0 where
  pub few : w.count ≤ 5460
  pub row : i < w.count
  pub near : w.offset ≤ 65535
  pub text : text_end e ≤ pool
  pub fits : record_at w.count + w.offset + e.length ≤ room

unfoldable pub Safe : ℕ → ℕ → Work → ℕ → Entry → Type 0
Safe pool room w i e = w.stage ≡ 1 → Puts pool room w i e

-- each visit is safe in the state that it finds
unfoldable pub Ready : List Entry → List ℕ → List ℕ → Work → Type 0
Ready es pool room w =
    (i : ℕ) → i < length es → Safe (length pool) (length (sweep es pool i (room, w)).0) (sweep es pool i (room, w)).1 i (entry_at es i)

-- and so in both sweeps
pub record ReadyTwice (es : List Entry) (pool room : List ℕ) : Type 0 where
  pub first : Ready es pool room (started (length es))
  pub second : Ready es pool (begun (checked_all es pool room)).0 (begun (checked_all es pool room)).1

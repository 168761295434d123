-- Which tables a level accepts, and the refusal that the others get: document 01's refusals 1, 2 and 3.
use Rattle.std.specs.Prelude.{ℕ, min, Bool, cond, ◌||◌, List, ltb, leb, length}
use Rattle.std.proofs.Math.Option.{Option, none}
use Rattle.outcomes.specs.Firsts.{when, ◌then◌}
use Rattle.outcomes.specs.Outcomes.{Refusal, bare, Outcome, accepted, unless}
use Rattle.level.specs.Levels.{newest}
use Rattle.level.specs.Sizes.{table_size}
use Rattle.os2_rules.specs.Tests.{verdict_of}
use Rattle.os2_fields.specs.Fields.{raw, version, values_of}

-- 2: "OS/2 under 2 bytes, or ..
unfoldable pub under_two : List ℕ → Bool
under_two b = ltb (length b) 2

-- the size for the smaller of w and L
abbrev pub size_read : (w L : ℕ) → ℕ
size_read w L = table_size (min w L)

-- .. shorter than the size for the smaller of w and L"
unfoldable pub under_size : ℕ → List ℕ → Bool
under_size L b = ltb (length b) (size_read (version b) L)

unfoldable pub short : ℕ → List ℕ → Bool
short L b = under_two b || under_size L b

-- 3: "Value rules, applied in order, only when w is at most L"
unfoldable pub ruling : ℕ → List ℕ → Option Refusal
ruling L b = cond (leb (version b) L) (verdict_of (values_of (raw b))) none

-- 2, then 3
unfoldable pub judged : ℕ → List ℕ → Option Refusal
judged L b = when (short L b) (bare 2) then ruling L b

-- 1, then 2, then 3: what a level, given by any number, says of a table
unfoldable pub checked : ℕ → List ℕ → Outcome (Unit {0})
checked L b = unless (when (ltb newest L) (bare 1) then judged L b) accepted

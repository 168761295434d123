-- The first fault of an entry behind the key before it. It is what a function of the code finds, and no part of what is promised.
use Rattle.std.specs.Prelude.{ℕ, ltb, eqb}
use Rattle.std.specs.Prelude as code
use Rattle.std.proofs.Math.Option.{Option}
use Rattle.outcomes.specs.Firsts.{when, ◌then◌}
use Rattle.outcomes.specs.Outcomes.{Refusal, carrying}
use Rattle.name_layout.specs.Keys.{packed}
use Rattle.name_store.specs.declared.Entry.{Entry}
use Rattle.name_store.specs.Entries.{key_for}
use Rattle.name_store.specs.Writing.{passes_pool, language_bad}

-- 17 and 19, behind the key before it, if there is one; then what comes after
abbrev pub behind : code.Option ℕ → ℕ → ℕ → Option Refusal → Option Refusal
behind code.None key i after = after
behind (code.Some last) key i after = when (ltb key last) (carrying 17 i) then when (eqb key last) (carrying 19 i) then after

-- the first fault of entry i, its string starting at an offset
unfoldable pub fault_of : ℕ → code.Option ℕ → ℕ → ℕ → Entry → Option Refusal
fault_of p before offset i e =
    when (passes_pool p e) (carrying 31 i)
    then when (language_bad e) (carrying 18 i)
    then behind before (packed (key_for e)) i (when (ltb 65535 offset) (carrying 32 i))

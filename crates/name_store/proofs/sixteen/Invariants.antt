-- Each entry before has numbers of 16 bits.
use Prim.Native.Nat.{ℕ, ◌<◌}
use Rattle.name_store.specs.Entries.{entry_at, Sixteen}
use Rattle.name_store.proofs.sixteen.Given as goal

abbrev pub invariant-loop-entry : goal.invariant-loop-entry
invariant-loop-entry l = (k : ℕ) → k < l.entry-index → Sixteen (entry_at l.entries k)

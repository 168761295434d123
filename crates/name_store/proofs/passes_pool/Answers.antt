-- A text longer than the pool passes its end; else no sum is needed.
use Prim.Native.Nat.{ℕ, ◌-◌, ◌≤◌, ◌<◌}
use mathlib.Core.Path.{◌≡◌, sym}
use native.Mathlib.Decide.{dec_lt}
use native.Mathlib.Omega.{arith}
use lib.Dec.{ltb}
use borrow.Author.Tests.{lt-ltb, le-ltb}
use Rattle.name_store.specs.declared.Entry.{Entry}
use Rattle.name_store.specs.Entries.{text_end}
use Rattle.name_store.specs.Writing.{passes_pool}
use Rattle.name_store.proofs.Bounds.{past_pool}
use Rattle.name_store.proofs.passes_pool.Goals as goal

past_is : (p : ℕ) (e : Entry) → e.length ≤ p → passes_pool p e ≡ ltb (p - e.length) e.start
unfolding passes_pool
past_is p e l = go (dec_lt p (text_end e))
  where
    go : Dec (p < text_end e) → ltb p (text_end e) ≡ ltb (p - e.length) e.start
    go (yes h) = simp (lt-ltb p (text_end e) h, lt-ltb (p - e.length) e.start (omega arith))
    go (no h) = simp (le-ltb p (text_end e) (omega arith), le-ltb (p - e.length) e.start (omega arith))

pub returns-then-pool-length : goal.returns-then-pool-length
returns-then-pool-length c = sym ((past_pool _ _).1 (omega arith))

pub returns : goal.returns
returns c = sym (past_is _ _ c.if-pool-length.false)

-- The first record follows none; the key of any other is compared with the one before it, by their numbers.
-- at most is below or equal
use Prim.Native.Nat.{ℕ, ◌-◌, ◌<◌}
use mathlib.Core.Path.{◌≡◌}
use mathlib.Core.Bool.{◌||◌}
use native.Mathlib.Decide.{dec_lt, ℕ_discrete}
use native.Mathlib.Omega.{arith}
use lib.Dec.{ltb, leb, eqb}
use borrow.Author.Tests.{lt-ltb, le-ltb, le-leb, lt-leb, eq-eqb, ne_eqb}
use Rattle.bigendian.specs.Numbers.{Bytes}
use Rattle.name_layout.proofs.Keys.{key_small, below_packed, same_packed}
use Rattle.name_tests.specs.Tests.{below_before, equals_before}
use Rattle.name_tests.proofs.not_above.Goals as goal

at_most_is : (a b : ℕ) → (ltb a b || eqb a b) ≡ leb a b
at_most_is a b = by (dec_lt a b) (ℕ_discrete a b)
  where
    by : Dec (a < b) → Dec (a ≡ b) → (ltb a b || eqb a b) ≡ leb a b
    by (yes l) d = simp (lt-ltb _ _ l, le-leb a b (omega arith))
    by (no l) (yes e) = simp (le-ltb a b (omega arith), eq-eqb _ _ e, le-leb a b (omega arith))
    by (no l) (no e) = simp (le-ltb a b (omega arith), ne_eqb _ _ e, lt-leb a b (omega arith))

pub returns-then-here-gt0 : goal.returns-then-here-gt0
unfolding below_before equals_before
returns-then-here-gt0 c = let t = c.args.here.now.table.now in
    let i = c.args.here.now.i in
    let b : Bytes t = c.args.here.now.each in
    let here = key_small t b i in
    let last = key_small t b (i - 1) in
    simp (lt-ltb _ _ c.if-here-gt0.true, below_packed here last, same_packed here last, at_most_is, ← c.key.ensures, ← c.key_before.ensures)

pub returns-else-here-gt0 : goal.returns-else-here-gt0
unfolding below_before equals_before
returns-else-here-gt0 c = simp (le-ltb _ _ c.if-here-gt0.false)

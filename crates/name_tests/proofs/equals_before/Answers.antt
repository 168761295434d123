-- The first record follows none; the key of any other is compared with the one before it, by their numbers.
use Prim.Native.Nat.{◌-◌}
use borrow.Author.Tests.{lt-ltb, le-ltb}
use Rattle.bigendian.specs.Numbers.{Bytes}
use Rattle.name_layout.proofs.Keys.{key_small, same_packed}
use Rattle.name_tests.specs.Tests.{equals_before}
use Rattle.name_tests.proofs.equals_before.Goals as goal

pub returns-then-here-gt0 : goal.returns-then-here-gt0
unfolding equals_before
returns-then-here-gt0 c = let t = c.args.here.now.table.now in
    let i = c.args.here.now.i in
    let b : Bytes t = c.args.here.now.each in
    let e = same_packed (key_small t b i) (key_small t b (i - 1)) in
    simp (lt-ltb _ _ c.if-here-gt0.true, e, ← c.key.ensures, ← c.key_before.ensures)

pub returns-else-here-gt0 : goal.returns-else-here-gt0
unfolding equals_before
returns-else-here-gt0 c = simp (le-ltb _ _ c.if-here-gt0.false)

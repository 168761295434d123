-- A long text: first as many bytes as lead to a multiple of a store's size, and then the others.
use Prim.Native.Nat.{◌-◌, ◌%◌}
use native.Mathlib.Omega.{arith}
use Rattle.copying.proofs.Copies.{both_copied}
use Rattle.copying.proofs.copy.Goals as goal

pub returns : goal.returns
returns c = let i = 16 - c.args.at % 16 in
    both_copied c.args.room.now c.args.at c.args.pool.now c.args.start c.args.n i (c.args.n - i) c.requires.1
    (omega arith) _ _ c.copy_blocks-2.ensures c.copy_turns.ensures

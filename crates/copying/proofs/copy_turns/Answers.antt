-- The turns, and then what is left.
use Prim.Native.Nat.{◌-◌, ◌%◌}
use native.Mathlib.Omega.{arith}
use Rattle.copying.proofs.Copies.{one_copied, more_copied, all_copied, copied_at}
use Rattle.copying.proofs.copy_turns.Goals as goal

pub loop-i-preserved : goal.loop-i-preserved
loop-i-preserved c = one_copied _ _ _ _ _ c.requires.1 (omega arith) c.loop-i.invariant

pub returns : goal.returns
returns c =
    let n = c.args.n in
    let turns = n - n % 32 in
    let t = copied_at _ _ _ _ _ {j = turns} c.loop-i.invariant (omega arith) in
    all_copied _ _ _ _ _ (more_copied _ _ _ _ _ c.requires.1 {i = turns} (n % 32) (omega arith) t c.copy_blocks.ensures) (omega arith)

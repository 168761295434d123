-- Each loop goes on where the one before it ended.
use native.Mathlib.Omega.{arith}
use Rattle.copying.proofs.Copies.{more_copied, one_copied, all_copied, copied_at}
use Rattle.copying.proofs.copy_blocks.Goals as goal

pub loop-long-preserved : goal.loop-long-preserved
loop-long-preserved c = copied_at _ _ _ _ _ (more_copied _ _ _ _ _ c.requires.1 32 (omega arith) c.loop-long.invariant c.copy_block.ensures) (omega arith)

pub loop-short-init : goal.loop-short-init
loop-short-init c = copied_at _ _ _ _ _ c.loop-long.invariant (omega arith)

pub loop-short-preserved : goal.loop-short-preserved
loop-short-preserved c = copied_at _ _ _ _ _ (more_copied _ _ _ _ _ c.requires.1 8 (omega arith) c.loop-short.invariant c.copy_block-in-loop-short.ensures) (omega arith)

pub loop-i-init : goal.loop-i-init
loop-i-init c = copied_at _ _ _ _ _ c.loop-short.invariant (omega arith)

pub loop-i-preserved : goal.loop-i-preserved
loop-i-preserved c = one_copied _ _ _ _ _ c.requires.1 (omega arith) c.loop-i.invariant

pub returns : goal.returns
returns c = all_copied _ _ _ _ _ c.loop-i.invariant (omega arith)

-- A block, or a byte, more each turn.
use Prim.Native.Nat.{◌*◌}
use Rattle.copying.proofs.Copies.{Copied}
use Rattle.copying.proofs.copy_blocks.Given as goal

abbrev pub invariant-loop-long : goal.invariant-loop-long
invariant-loop-long l = Copied l.fn.room l.at l.pool l.start l.n l.room (32 * l.long)

abbrev pub invariant-loop-short : goal.invariant-loop-short
invariant-loop-short l = Copied l.fn.room l.at l.pool l.start l.n l.room (8 * l.short)

abbrev pub invariant-loop-i : goal.invariant-loop-i
invariant-loop-i l = Copied l.fn.room l.at l.pool l.start l.n l.room l.i

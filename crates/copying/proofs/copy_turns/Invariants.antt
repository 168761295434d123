-- One byte more a turn.
use Rattle.copying.proofs.Copies.{Copied}
use Rattle.copying.proofs.copy_turns.Given as goal

abbrev pub invariant-loop-i : goal.invariant-loop-i
invariant-loop-i l = Copied l.fn.room l.at l.pool l.start l.n l.room l.i

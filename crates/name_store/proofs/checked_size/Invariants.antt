-- No entry before has a fault.
use Rattle.name_store.proofs.Faults.{Checked}
use Rattle.name_store.proofs.checked_size.Given as goal

abbrev pub invariant-loop-i : goal.invariant-loop-i
invariant-loop-i l = Checked l.entries l.pool l.i l.before l.offset

-- An accepted table has its header, and its storage starts within it.
use Rattle.std.proofs.Common.{arith}
use Rattle.name.proofs.Acceptances.{no_fault, accepted_framed}
use Rattle.name_lines.proofs.head_line.Goals as goal

pub invariant_of-table-clause-header : goal.invariant_of-table-clause-header
invariant_of-table-clause-header c = (accepted_framed _ c.args.table.now.accepted).front

pub overflow_sub-table : goal.overflow_sub-table
overflow_sub-table c = let placed = ((no_fault _).0 c.args.table.now.accepted).laid.placed in omega arith

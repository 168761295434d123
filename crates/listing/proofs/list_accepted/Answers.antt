-- Each record of an accepted table lies within it.
use Rattle.std.proofs.Common.{arith}
use Rattle.name.proofs.Acceptances.{record_inside}
use Rattle.listing.proofs.list_accepted.Goals as goal

pub invariant_of-record-clause-inside : goal.invariant_of-record-clause-inside
invariant_of-record-clause-inside c = record_inside _ c.args.table.now.accepted c.loop-i.i (omega arith)

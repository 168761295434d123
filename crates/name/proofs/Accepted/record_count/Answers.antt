-- An accepted table has its header.
use Rattle.name.proofs.Acceptances.{accepted_framed}
use Rattle.name.proofs.Accepted.record_count.Goals as goal

pub invariant_of-table-clause-header : goal.invariant_of-table-clause-header
invariant_of-table-clause-header c = (accepted_framed _ c.args.self.now.accepted).front

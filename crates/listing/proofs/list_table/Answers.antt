-- A table that is not refused is accepted.
use Rattle.name.proofs.Acceptances.{accepted_none}
use Rattle.listing.proofs.list_table.Goals as goal

pub invariant_of-list_accepted-clause-accepted : goal.invariant_of-list_accepted-clause-accepted
invariant_of-list_accepted-clause-accepted c = accepted_none _ c.check.ensures c.in-Ok.is

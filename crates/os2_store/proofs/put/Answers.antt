-- One byte is stored as it is.
use Rattle.os2_store.proofs.Signs.{stored_1}
use Rattle.os2_store.proofs.put.Goals as goal

pub returns-in-1 : goal.returns-in-1
returns-in-1 c = rw (c.in-1.is, c.from-at.ensures) (stored_1 _ _ _ (rw c.in-1.is at c.requires.small))

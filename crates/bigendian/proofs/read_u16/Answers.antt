-- The two bytes, joined, are the number by its law for two bytes.
use Rattle.bigendian.proofs.Laws.{number_2}
use Rattle.bigendian.proofs.read_u16.Goals as goal

pub returns : goal.returns
returns c = rw number_2 c.pair.ensures

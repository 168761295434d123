-- The two halves, joined, are the number by its law for four bytes.
use Rattle.bigendian.proofs.Laws.{number_4}
use Rattle.bigendian.proofs.read_u32.Goals as goal

pub returns : goal.returns
returns c = rw number_4 (cc)

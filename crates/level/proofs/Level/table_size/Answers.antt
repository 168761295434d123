-- It is the size of the version that the level's number is.
use Rattle.level.proofs.Level.table_size.Goals as goal

pub returns : goal.returns
returns c = cc

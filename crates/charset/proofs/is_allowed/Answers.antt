-- By the one test over the whole table, which antt computes.
use mathlib.Core.Path.{refl}
use mathlib.Core.Bool.{xor}
use Rattle.charset.specs.Allowed.{allowed}
use Rattle.charset.specs.Table.{entry_of}
use Rattle.charset.proofs.Table.{whole_table}
use Rattle.charset.proofs.is_allowed.Goals as goal

pub entry-requires : goal.entry-requires
unfolding allowed entry_of xor
entry-requires c = (whole_table _).0 refl

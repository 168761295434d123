-- The four numbers that were read are the key's digits.
use Rattle.name_layout.specs.Keys.{key_of}
use Rattle.name_layout.proofs.RecordAt.key.Goals as goal

pub returns : goal.returns
unfolding key_of
returns c = rw (← c.part.ensures, ← c.part-2.ensures, ← c.part-3.ensures, ← c.part-4.ensures) c.number.ensures

use mathlib.Core.Path.{◌∙◌}
use Rattle.bigendian.proofs.Laws.{stored_2}
use Rattle.bigendian.proofs.store_u16.Goals as goal

pub returns : goal.returns
returns c = stored_2 _ _ _ _ c.requires (c.copy_from_slice.ensures.after ∙ c.to_be_bytes.ensures)

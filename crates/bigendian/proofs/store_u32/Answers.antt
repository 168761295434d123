use mathlib.Core.Path.{◌∙◌}
use Rattle.bigendian.proofs.Laws.{stored_4}
use Rattle.bigendian.proofs.store_u32.Goals as goal

pub returns : goal.returns
returns c = stored_4 _ _ _ _ c.requires (c.copy_from_slice.ensures.after ∙ c.to_be_bytes.ensures)

-- As many rows as are answered are in the room.
use Rattle.std.proofs.Common.{sym, ap, ◌∙◌, length-take-le, arith}
use Rattle.os2_compare.specs.Comparisons.{said_compared}
use Rattle.os2_compare.proofs.Theorems.{rows_within}
use Rattle.compare.proofs.list_os2.Goals as goal

pub slice_bounds-write_rows-end : goal.slice_bounds-write_rows-end
slice_bounds-write_rows-end c =
    let within = rows_within _ _ _ _ _ (sym c.compare.ensures.0 ∙ ap said_compared c.in-Ok.is) in
    sym (length-take-le _ _ (omega (arith, within, c.as_chunks.ensures.front_len)))

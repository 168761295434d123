-- A name lies within the table and is at most 63 bytes long.
use Rattle.std.proofs.Common.{arith}
use lib.ListN.{length-take, length-drop}
use Rattle.name_lines.proofs.Bounds.{name_within}
use Rattle.name_lines.proofs.name_in.Goals as goal

pub overflow_add-result : goal.overflow_add-result
overflow_add-result c =
    omega (arith, name_within _ c.args.table.now.accepted c.args.table.now.each _ c.requires)

pub slice_bounds-result-end : goal.slice_bounds-result-end
slice_bounds-result-end c =
    omega (arith, name_within _ c.args.table.now.accepted c.args.table.now.each _ c.requires)

pub returns-clause-most : goal.returns-clause-most
returns-clause-most c =
    rw (length-take, length-drop) (omega (arith, name_within _ c.args.table.now.accepted c.args.table.now.each _ c.requires))

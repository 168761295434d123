-- The record lies within an accepted table, and its string ends within it.
use Rattle.std.proofs.Common.{arith}
use Rattle.name.proofs.Acceptances.{record_inside}
use Rattle.name_search.proofs.Finds.{text_inside, part_is}
use Rattle.name_search.proofs.string_of.Goals as goal

pub invariant_of-text_of-clause-inside : goal.invariant_of-text_of-clause-inside
invariant_of-text_of-clause-inside c = record_inside _ c.args.table.now.accepted _ c.requires

pub overflow_add-end : goal.overflow_add-end
overflow_add-end c = omega (arith, text_inside _ _ c.text_of-text.ensures c.args.table.now.accepted c.requires)

pub slice_bounds-result-end : goal.slice_bounds-result-end
slice_bounds-result-end c = omega (arith, text_inside _ _ c.text_of-text.ensures c.args.table.now.accepted c.requires)

pub returns : goal.returns
returns c = part_is _ _ c.text_of-text.ensures

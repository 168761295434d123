-- Both records lie within an accepted table, and the parts lent are their strings.
use Rattle.name.proofs.Acceptances.{record_inside}
use Rattle.name_answers.proofs.from_records.Goals as goal

pub invariant_of-text_of-clause-inside : goal.invariant_of-text_of-clause-inside
invariant_of-text_of-clause-inside c = record_inside _ c.args.table.now.accepted _ c.requires.0

pub string_of-requires : goal.string_of-requires
string_of-requires c = c.requires.0

pub string_of-requires-2 : goal.string_of-requires-2
string_of-requires-2 c = c.requires.1

pub returns : goal.returns
returns c = rw (c.string_of.ensures, c.string_of-2.ensures, c.text_of-name.ensures) at c.from_strings.ensures

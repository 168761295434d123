-- The parts compared are the strings.
use Rattle.std.proofs.Common.{◌∙◌}
use Rattle.name_compare.proofs.same_string.Goals as goal

pub string_of-requires : goal.string_of-requires
string_of-requires c = c.requires.0

pub string_of-requires-2 : goal.string_of-requires-2
string_of-requires-2 c = c.requires.1

pub returns : goal.returns
returns c = c.same.ensures ∙ rw (c.string_of.ensures, c.string_of-2.ensures)

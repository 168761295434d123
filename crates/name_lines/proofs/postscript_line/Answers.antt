use Rattle.std.proofs.Common.{ap, sym, ◌∙◌}
use Rattle.name_answers.specs.Names.{said_name}
use Rattle.name_lines.proofs.postscript_line.Goals as goal

pub name_in-requires : goal.name_in-requires
name_in-requires c = sym c.accepted_postscript.ensures ∙ ap said_name c.in-Ok.is

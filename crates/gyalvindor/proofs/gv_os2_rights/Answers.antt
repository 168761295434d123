-- The words of the reply, which says what the definition does.
use mathlib.Core.Path.{ap, ◌∙◌}
use Rattle.os2_words.specs.Words.{rights_words}
use Rattle.gyalvindor.proofs.gv_os2_rights.Goals as goal

pub returns : goal.returns
returns c = c.rights_words.ensures ∙ ap rights_words c.rights.ensures

-- The words of the answer, which is the definition's.
use mathlib.Core.Path.{ap, ◌∙◌}
use Rattle.name_words.specs.Words.{version_words}
use Rattle.gyalvindor.proofs.gv_name_version.Goals as goal

pub returns : goal.returns
returns c = c.version_words.ensures ∙ ap version_words c.version.ensures

-- The words of the reply, which says what the definition does.
use mathlib.Core.Path.{ap, ◌∙◌}
use Rattle.os2_words.specs.Words.{optical_words}
use Rattle.gyalvindor.proofs.gv_os2_optical_sizes.Goals as goal

pub returns : goal.returns
returns c = c.optical_words.ensures ∙ ap optical_words c.optical_sizes.ensures

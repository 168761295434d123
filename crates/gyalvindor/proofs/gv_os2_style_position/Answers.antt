-- The words of the reply, which says what the definition does.
use mathlib.Core.Path.{ap, ◌∙◌}
use Rattle.os2_words.specs.Words.{style_words}
use Rattle.gyalvindor.proofs.gv_os2_style_position.Goals as goal

pub returns : goal.returns
returns c = c.style_words.ensures ∙ ap style_words c.style_position.ensures

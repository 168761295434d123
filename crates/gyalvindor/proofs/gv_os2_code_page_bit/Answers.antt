-- The words of the reply, which says what the definition does.
use mathlib.Core.Path.{ap, ◌∙◌}
use Rattle.os2_words.specs.Words.{number_words}
use Rattle.gyalvindor.proofs.gv_os2_code_page_bit.Goals as goal

pub returns : goal.returns
returns c = c.number_words.ensures ∙ ap number_words c.code_page_bit.ensures

-- The words of the answer, which is the definition's.
use mathlib.Core.Path.{ap, ◌∙◌}
use Rattle.name_words.specs.Words.{text_words}
use Rattle.gyalvindor.proofs.gv_name_postscript.Goals as goal

pub returns : goal.returns
returns c = c.named_words.ensures ∙ ap text_words c.postscript.ensures

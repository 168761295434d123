-- The words of the answer and of the count, which are the definitions'.
use mathlib.Core.Path.{◌∙◌}
use Rattle.name_words.specs.Words.{found_words}
use Rattle.gyalvindor.proofs.gv_name_lookup.Goals as goal

pub returns : goal.returns
returns c = let told = c.lookup.ensures in c.found_words.ensures ∙ (λ i. found_words (told.answer i) (told.looked i))

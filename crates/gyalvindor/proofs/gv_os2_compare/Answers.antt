-- The words of the comparison's answer, and the room as the comparison leaves it.
use Rattle.std.proofs.Common.{ap, ◌∙◌}
use Rattle.os2_compare.specs.Comparisons.{said_refusal}
use Rattle.compare_words.specs.Words.{compared_words}
use Rattle.compare_words.proofs.Compared.{compared_said}
use Rattle.gyalvindor.proofs.gv_os2_compare.Goals as goal

pub returns : goal.returns
returns c =
    let words = compared_said said_refusal _ c.compared_words.ensures.listed c.compared_words.ensures.refused in
    (words ∙ ap compared_words c.compare.ensures.0, c.compare.ensures.1)

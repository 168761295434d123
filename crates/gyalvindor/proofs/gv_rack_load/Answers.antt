-- The words of what is answered, and the rack after it.
use Rattle.std.proofs.Common.{ap, ◌∙◌}
use Rattle.refusal_words.specs.Words.{outcome_refusal}
use Rattle.chooser_words.proofs.Words.{change_said, done_words}
use Rattle.gyalvindor.proofs.gv_rack_load.Goals as goal

pub returns : goal.returns
returns c =
    let load = c.load-loaded.ensures in
    let words = change_said _ c.check_words.ensures.accepted c.check_words.ensures.refused in
    (words ∙ ap outcome_refusal load.0 ∙ done_words _, load.1)

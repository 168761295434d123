-- The words of what is answered to what is wanted.
use mathlib.Core.Path.{ap, ◌∙◌}
use Rattle.choice.specs.declared.Want.{Want}
use Rattle.choice.specs.Ranks.{request_of}
use Rattle.chooser.specs.Racks.{held}
use Rattle.chooser_words.specs.Words.{chosen_words}
use Rattle.gyalvindor.proofs.gv_rack_request.Goals as goal

pub returns : goal.returns
returns c = c.choice_words.ensures
    ∙ ap chosen_words (c.request.ensures ∙ ap (λ (w : Want). request_of (held c.args.rack) c.args.family.now w) c.want_of.ensures)

-- The words of the verdict, which is the definition's.
use Rattle.std.proofs.Common.{ap, ◌∙◌}
use Rattle.name.specs.Refusals.{said_refusal}
use Rattle.refusal_words.specs.Words.{outcome_refusal}
use Rattle.refusal_words.proofs.Checks.{check_said}
use Rattle.gyalvindor.proofs.gv_name_check.Goals as goal

pub returns : goal.returns
returns c = check_said said_refusal _ c.check_words.ensures.accepted c.check_words.ensures.refused ∙ ap outcome_refusal c.check.ensures

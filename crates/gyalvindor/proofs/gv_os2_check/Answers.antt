-- The words of what the check says, which is the definition's.
use Rattle.std.proofs.Common.{ap, ◌∙◌}
use Rattle.os2_acceptance.specs.Replies.{said_refusal}
use Rattle.refusal_words.specs.Words.{outcome_refusal}
use Rattle.refusal_words.proofs.Checks.{check_said}
use Rattle.gyalvindor.proofs.gv_os2_check.Goals as goal

pub returns : goal.returns
returns c = check_said said_refusal _ c.check_words.ensures.accepted c.check_words.ensures.refused ∙ ap outcome_refusal c.check.ensures

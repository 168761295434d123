-- The test is that of the character read.
use mathlib.Core.Path.{ap, ◌∙◌}
use Rattle.characters.specs.Digits.{digit}
use Rattle.version_text.proofs.digit_at.Goals as goal

pub returns : goal.returns
returns c = c.is_digit.ensures ∙ ap digit c.code.ensures

-- The code's test is the definition's.
use mathlib.Core.Path.{refl}
use Rattle.characters.specs.Digits.{digit}
use Rattle.characters.proofs.is_digit.Goals as goal

pub returns : goal.returns
unfolding digit
returns c = refl

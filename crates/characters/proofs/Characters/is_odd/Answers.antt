-- The code's test is the definition's.
use Rattle.characters.specs.Strings.{odd}
use mathlib.Core.Path.{refl}
use Rattle.characters.proofs.Characters.is_odd.Goals as goal

pub returns : goal.returns
unfolding odd
returns c = refl

-- The two tests are those of the contract.
use mathlib.Core.Path.{sym}
use mathlib.Core.Bool.{false≢true}
use Rattle.name.proofs.out_of_limits.Goals as goal

pub returns-then-limit-key : goal.returns-then-limit-key
returns-then-limit-key c = λ e. absurd (false≢true (sym e))

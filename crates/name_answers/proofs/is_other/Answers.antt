-- A code above 255 is not allowed, since the largest that is, is 126.
use Rattle.charset.specs.Allowed.{allowed}
use mathlib.Mathlib.Data.Bool.Basic.{eq-false_of_not-eq-true}
use native.Mathlib.Omega.{arith}
use Rattle.charset.proofs.Laws.{allowed_is}
use Rattle.name_answers.proofs.is_other.Goals as goal

pub returns-then-code-gt255 : goal.returns-then-code-gt255
returns-then-code-gt255 c = rw (eq-false_of_not-eq-true {b = allowed c.args.code} (λ e. omega (arith, ((allowed_is c.args.code).0 e).most)))

pub returns : goal.returns
returns c = rw c.is_allowed.ensures

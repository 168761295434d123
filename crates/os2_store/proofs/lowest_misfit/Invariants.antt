-- The invariant: no field below k fails to fit.
use Rattle.os2_store.specs.Writing.{misfit_at}
use Rattle.outcomes.specs.Firsts.{first_among}
use mathlib.Core.Path.{◌≡◌}
use mathlib.Core.Option.{none}
use Rattle.os2_store.proofs.lowest_misfit.Given as goal

abbrev pub invariant-loop-k : goal.invariant-loop-k
invariant-loop-k l = first_among (misfit_at l.version l.numbers) l.k ≡ none

-- A slot's number is its place.
use mathlib.Core.Path.{sym, ◌∙◌}
use Rattle.chooser.proofs.Steps.{place_none, place_own}
use Rattle.chooser.proofs.place.Goals as goal

pub returns-then-is_none : goal.returns-then-is_none
returns-then-is_none c = place_none _ (sym c.is_none.ensures ∙ c.if-is_none.true)

pub returns : goal.returns
returns c = place_own _ (sym c.is_none.ensures ∙ c.if-is_none.false)

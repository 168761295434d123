-- The one test is the definition's.
use mathlib.Core.Path.{refl, sym, ◌∙◌, ap}
use Rattle.outcomes.proofs.Laws.{when_none, when_some}
use Rattle.name_tests.specs.Tests.{string_passes}
use Rattle.name.specs.Acceptance.{tag_fault}
use Rattle.name.proofs.tag_fault.Goals as goal

pub returns-then-string_passes : goal.returns-then-string_passes
unfolding tag_fault
returns-then-string_passes c =
    let string = c.string_passes.ensures ∙ ap (string_passes _) c.tag_at.ensures in
    sym ((when_some _ _ _).1 (sym string ∙ c.if-string_passes.true, refl))

pub returns : goal.returns
unfolding tag_fault
returns c =
    let string = c.string_passes.ensures ∙ ap (string_passes _) c.tag_at.ensures in
    sym ((when_none _ _).1 (sym string ∙ c.if-string_passes.false))

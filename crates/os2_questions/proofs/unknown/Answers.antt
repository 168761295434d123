-- The tests that led to a return decide the definition's.
use mathlib.Core.Path.{sym, ap, ◌∙◌}
use Rattle.os2_questions.specs.Cases.{above, unknown}
use Rattle.os2_questions.proofs.unknown.Goals as goal

pub returns-then-above : goal.returns-then-above
unfolding unknown
returns-then-above c = rw (sym (c.above.ensures ∙ ap (above _) c.number-level.ensures) ∙ c.if-above.true)

pub returns-then-whole : goal.returns-then-whole
unfolding unknown
returns-then-whole c = rw (sym (c.above.ensures ∙ ap (above _) c.number-level.ensures) ∙ c.if-above.false, c.if-whole.true)
    (c.above-then-whole.ensures ∙ rw (c.version_of.ensures, c.number-level.ensures))

pub returns : goal.returns
unfolding unknown
returns c = rw (sym (c.above.ensures ∙ ap (above _) c.number-level.ensures) ∙ c.if-above.false, c.if-whole.false)

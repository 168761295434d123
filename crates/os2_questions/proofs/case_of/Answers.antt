-- Each return is the case of the definition that the tests before it pick.
use mathlib.Core.Path.{sym, ap, ◌∙◌}
use Rattle.os2_questions.specs.Cases.{above, case_of}
use Rattle.os2_questions.proofs.case_of.Goals as goal

pub returns-then-unknown : goal.returns-then-unknown
unfolding case_of
returns-then-unknown c = rw (sym c.unknown.ensures ∙ c.if-unknown.true)

pub returns-then-above : goal.returns-then-above
unfolding case_of
returns-then-above c = rw (sym c.unknown.ensures ∙ c.if-unknown.false, sym (c.above.ensures ∙ ap (above _) c.version_of.ensures) ∙ c.if-above.true)

pub returns : goal.returns
unfolding case_of
returns c = rw (sym c.unknown.ensures ∙ c.if-unknown.false, sym (c.above.ensures ∙ ap (above _) c.version_of.ensures) ∙ c.if-above.false)

-- Answers that are not the same of the three differ; the others differ by their values.
use mathlib.Core.Path.{sym, ap, ◌∙◌}
use Rattle.os2_compare.specs.Differences.{kind_of}
use Rattle.os2_compare.proofs.Answers.{differ_exactly, by_figures}
use borrow.Author.Rules.{rules}
use Rattle.os2_compare.proofs.differ.Goals as goal

pub returns-then-kind : goal.returns-then-kind
returns-then-kind c = sym ((differ_exactly _ _).1 (λ e. c.if-kind.true (c.kind.ensures ∙ (ap kind_of e ∙ sym c.kind-2.ensures))))

pub returns : goal.returns
returns c = by_figures _ _ (search rules) (search rules) c.figure.ensures c.figure-2.ensures
    (sym c.kind.ensures ∙ (c.if-kind.false ∙ c.kind-2.ensures))

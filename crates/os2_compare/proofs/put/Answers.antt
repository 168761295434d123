-- The five stores are those of the row.
use mathlib.Core.Path.{ap, ◌∙◌}
use native.Mathlib.Omega.{arith}
use lib.IntN.{pos}
use lib.ListN.{length-set}
use mir.Facts.{to_z-of_z}
use mir.Syntax.{w64}
use Rattle.os2_compare.proofs.Lists.{five_stores}
use borrow.Author.Rules.{rules}
use Rattle.os2_compare.proofs.put.Goals as goal

pub bounds-rows-at-2 : goal.bounds-rows-at-2
bounds-rows-at-2 c = simp length-set (omega arith)

pub bounds-rows-at-3 : goal.bounds-rows-at-3
bounds-rows-at-3 c = simp length-set (omega arith)

pub bounds-rows-at-4 : goal.bounds-rows-at-4
bounds-rows-at-4 c = simp length-set (omega arith)

pub bounds-rows-at-5 : goal.bounds-rows-at-5
bounds-rows-at-5 c = simp length-set (omega arith)

pub returns : goal.returns
returns c = five_stores _ _ _
    (to_z-of_z {w = w64} (search rules) ∙ c.from.ensures)
    (to_z-of_z {w = w64} (search rules) ∙ (c.from-2.ensures ∙ ap pos c.kind.ensures))
    (to_z-of_z {w = w64} (search rules) ∙ c.figure.ensures)
    (to_z-of_z {w = w64} (search rules) ∙ (c.from-3.ensures ∙ ap pos c.kind-2.ensures))
    (to_z-of_z {w = w64} (search rules) ∙ c.figure-2.ensures)

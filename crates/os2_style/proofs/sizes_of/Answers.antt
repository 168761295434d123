-- The tests that led to a return decide the definition's.
use borrow.Author.Tests.{eq-eqb, ne_eqb}
use Rattle.os2_style.specs.Style.{sizes_of}
use Rattle.os2_style.proofs.sizes_of.Goals as goal

pub returns-then-lower-eq0 : goal.returns-then-lower-eq0
unfolding sizes_of
returns-then-lower-eq0 c = simp (eq-eqb _ _ c.if-upper-eq65535.true, eq-eqb _ _ c.if-lower-eq0.true)

pub returns-then-upper-eq65535 : goal.returns-then-upper-eq65535
unfolding sizes_of
returns-then-upper-eq65535 c = simp (eq-eqb _ _ c.if-upper-eq65535.true, ne_eqb _ _ c.if-lower-eq0.false, c.in_points.ensures)

pub returns : goal.returns
unfolding sizes_of
returns c = simp (ne_eqb _ _ c.if-upper-eq65535.false, c.in_points-2.ensures, c.in_points-3.ensures)

-- In the end all 32 were looked at.
use mathlib.Core.Path.{◌≡◌, sym}
use native.Mathlib.Omega.{arith}
use Rattle.choice.proofs.Ranking.{request_none, request_some}
use Rattle.chooser.specs.Racks.{held}
use Rattle.chooser.proofs.Ranked.{best_none, best_more}
use Rattle.chooser.proofs.request.Goals as goal

pub loop-i-init : goal.loop-i-init
loop-i-init c = best_none _ _ _

pub loop-i-preserved : goal.loop-i-preserved
unfolding held
loop-i-preserved c =
    let l = c.loop-i in
    best_more _ _ _ l.i l.best c.rank_at.result l.invariant c.rank_at.ensures c.lower-best.ensures

pub returns-then-best-eq-NO_FACE : goal.returns-then-best-eq-NO_FACE
returns-then-best-eq-NO_FACE c =
    let e : c.loop-i.i ≡ 32 = omega (arith, c.loop-i.auto.i-end, c.loop-i-test.false) in
    sym (request_none _ _ _ _ (rw e at c.loop-i.invariant) c.if-best-eq-NO_FACE.true)

pub returns : goal.returns
returns c =
    let e : c.loop-i.i ≡ 32 = omega (arith, c.loop-i.auto.i-end, c.loop-i-test.false) in
    sym (request_some _ _ _ _ (rw e at c.loop-i.invariant) c.if-best-eq-NO_FACE.false)

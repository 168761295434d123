-- The invariant: what is kept stands for the first of the slots that were looked at.
use Rattle.choice.specs.Ranks.{best, Stands}
use Rattle.chooser.specs.Racks.{held}
use Rattle.chooser.proofs.request.Given as goal

abbrev pub invariant-loop-i : goal.invariant-loop-i
invariant-loop-i l = Stands l.want l.best (best (held l.fn.rack) l.family l.want l.i)

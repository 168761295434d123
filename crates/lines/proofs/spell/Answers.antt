use Rattle.std.proofs.Common.{◌≤◌, ◌≡◌, refl, ◌∙◌, length, arith}
use lib.ListN.{length-set, drop_of_length-le}
use Rattle.lines.specs.Numerals as Numerals
use Rattle.lines.specs.Numerals.{decimal}
use Rattle.lines.proofs.Digits.{digits_last, digits_next}
use Rattle.lines.proofs.spell.Goals as goal

pub loop-k-init : goal.loop-k-init
unfolding decimal
loop-k-init c = let z : length c.args.digits.now ≤ 20 = omega arith in (omega arith, refl, rw (drop_of_length-le c.args.digits.now z))

pub returns-then-rest-lt10 : goal.returns-then-rest-lt10
returns-then-rest-lt10 c = let l = c.loop-k in (omega arith, digits_last _ _ _ (omega arith) (omega arith) (omega arith) ∙ l.invariant.2)

pub loop-k-preserved : goal.loop-k-preserved
loop-k-preserved c = let l = c.loop-k in (omega arith, rw length-set l.invariant.1, digits_next _ _ _ (omega arith) (omega arith) (omega arith) ∙ l.invariant.2)

pub returns : goal.returns
unfolding Numerals.digits
returns c = let z : c.loop-k.k ≡ 0 = omega arith in (omega arith, rw z at c.loop-k.invariant.2)

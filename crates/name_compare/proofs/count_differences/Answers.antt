use mathlib.Core.Path.{refl, ap, ◌∙◌}
use mathlib.Core.List.{[], ◌++◌}
use native.Mathlib.Omega.{arith}
use lib.ListN.{length}
use Rattle.name_compare.specs.Steps.{both_of, passed}
use Rattle.name_compare.proofs.Rows.{one_more, no_more}
use Rattle.name_compare.proofs.Merges.{started, inside, finished}
use Rattle.name_compare.proofs.count_differences.Goals as goal

pub loop-i-init : goal.loop-i-init
loop-i-init c = (omega arith, omega arith, omega arith, ([], started _ _, refl))

pub advance-s-requires : goal.advance-s-requires
advance-s-requires c = let l = c.loop-i in
    let m = c.record_count-m.ensures in
    let n = c.record_count-n.ensures in
    record { on_left = l.invariant.0; on_right = l.invariant.1; more = omega arith }

pub overflow_add-count : goal.overflow_add-count
overflow_add-count c = omega (arith, inside (both_of c.args.pair.now))

pub loop-i-smaller : goal.loop-i-smaller
loop-i-smaller c = let m = c.record_count-m.ensures in
    let n = c.record_count-n.ensures in
    omega (arith, c.advance-s.ensures)

pub loop-i-smaller-in-Some : goal.loop-i-smaller-in-Some
loop-i-smaller-in-Some c = let m = c.record_count-m.ensures in
    let n = c.record_count-n.ensures in
    omega (arith, c.advance-s.ensures)

pub loop-i-preserved-in-Some : goal.loop-i-preserved-in-Some
loop-i-preserved-in-Some c =
    let s = c.advance-s.ensures in
    let l = c.loop-i.invariant in
    let out = l.3.0 in
    let one = one_more c.advance-s.result.key out c.in-Some.is in
    (s.on_left, s.on_right, omega (arith, s), (out ++ passed _ _, s.lists out l.3.1, omega (arith, one, l.3.2)))

pub loop-i-preserved : goal.loop-i-preserved
loop-i-preserved c =
    let s = c.advance-s.ensures in
    let l = c.loop-i.invariant in
    let out = l.3.0 in
    let same = no_more c.advance-s.result.key out c.in_default.is in
    (s.on_left, s.on_right, omega (arith, s), (out ++ passed _ _, s.lists out l.3.1, omega (arith, same, l.3.2)))

pub returns : goal.returns
returns c = let l = c.loop-i.invariant in
    let k = both_of c.args.pair.now in
    let m = c.record_count-m.ensures in
    let n = c.record_count-n.ensures in
    l.3.2 ∙ ap length (finished _ _ k l.3.1 (omega arith) (omega arith))

-- What the record that is looked at has is equal to what is sought, or below it, or above it.
use Prim.Native.Nat.{ℕ, ◌*◌, ◌<◌}
use mathlib.Core.Path.{◌≡◌, sym, ◌∙◌, ap}
use mathlib.Core.List.{List}
use native.Mathlib.Omega.{arith}
use Rattle.bigendian.specs.Numbers.{Bytes}
use Rattle.outcomes.proofs.Tests as tests
use Rattle.name_layout.specs.Layout.{count}
use Rattle.name_tests.specs.Steps.{Framed}
use Rattle.name.specs.Acceptable.{Acceptable}
use Rattle.name.proofs.Acceptances.{accepted_framed}
use Rattle.name.proofs.Theorems.{acceptable}
use Rattle.name_search.specs.Steps.{middle}
use Rattle.name_search.specs.Seeking.{sought_by, doubled, record_sought, looks_sought}
use Rattle.name_search.proofs.Halvings.{Rising, start, upward, downward, scan_found, nowhere}
use Rattle.name_search.proofs.Seeking.{doubled_rise, hit, short, far}
use Rattle.name_search.proofs.Turns.{counted_start, counted_end, counted_found, counted_up, counted_down}
use Rattle.name_search.proofs.halving.Goals as goal

framed : (t : List ℕ) → Acceptable t → Framed t
framed t a = accepted_framed t ((acceptable t).1 a)

rise : (t : List ℕ) → Bytes t → Acceptable t → Rising (doubled t) (count t)
rise t b a = doubled_rise t b ((acceptable t).1 a)

pub invariant_of-record_count-clause-header : goal.invariant_of-record_count-clause-header
invariant_of-record_count-clause-header c = (framed _ c.requires).front

pub loop-low-init : goal.loop-low-init
loop-low-init c = rw c.record_count-high.ensures (start _ _ _, counted_start _ _ _)

pub invariant_of-key-clause-inside : goal.invariant_of-key-clause-inside
invariant_of-key-clause-inside c = omega (arith, framed _ c.requires)

pub returns-then-here-number : goal.returns-then-here-number
unfolding record_sought looks_sought
returns-then-here-number c =
    let t = c.args.table.now in
    let b : Bytes t = λ i. omega (arith, c.type_inv.table i) in
    let mid = middle c.loop-low.low c.loop-low.high in
    let equal : doubled t mid ≡ sought_by c.args.number c.args.exact = ap (λ n. 2 * n) (sym c.key-here.ensures) ∙ hit _ _ _ c.if-here-number.true in
    record {
      found = sym (scan_found _ _ mid _ (omega arith) equal (rise t b c.requires));
      looked = counted_found _ _ c.loop-low.invariant.1 (omega arith) ((tests.equal _ _).1 equal);
    }

pub loop-low-preserved-then-here-number-2 : goal.loop-low-preserved-then-here-number-2
loop-low-preserved-then-here-number-2 c =
    let t = c.args.table.now in
    let b : Bytes t = λ i. omega (arith, c.type_inv.table i) in
    let mid = middle c.loop-low.low c.loop-low.high in
    let below : doubled t mid < sought_by c.args.number c.args.exact = rw (← c.key-here.ensures) (short _ _ _ c.if-here-number.false c.if-here-number-2.true) in (
      upward _ _ (rise t b c.requires) c.loop-low.invariant.0 mid (omega arith) (omega arith) below,
      counted_up _ _ c.loop-low.invariant.1 (omega arith) ((tests.unequal (doubled t mid) (sought_by c.args.number c.args.exact)).1 (λ e. omega arith)) ((tests.below _ _).1 below),
    )

pub loop-low-preserved : goal.loop-low-preserved
loop-low-preserved c =
    let t = c.args.table.now in
    let b : Bytes t = λ i. omega (arith, c.type_inv.table i) in
    let mid = middle c.loop-low.low c.loop-low.high in
    let sought = sought_by c.args.number c.args.exact in
    let above : sought < doubled t mid = rw (← c.key-here.ensures) (far _ _ c.args.exact c.if-here-number-2.false) in (
      downward _ _ (rise t b c.requires) c.loop-low.invariant.0 mid (omega arith) (omega arith) above,
      counted_down _ _ c.loop-low.invariant.1 (omega arith) ((tests.unequal (doubled t mid) sought).1 (λ e. omega arith))
          ((tests.not_below (doubled t mid) sought).1 (omega arith)),
    )

pub returns : goal.returns
unfolding record_sought looks_sought
returns c =
    let kept = c.loop-low.invariant in
    let met : c.loop-low.low ≡ c.loop-low.high = omega arith in
    record { found = sym (nowhere _ _ (rw met at kept.0)); looked = counted_end _ _ kept.1 c.loop-low-test.false }

-- A turn looks at what the turn before it read: that record keeps the limits, and the key of this one is above its key.
use Prim.Native.Nat.{ℕ, ◌+◌, ◌/◌, ◌%◌, ◌≤◌, ◌<◌, ◌-◌}
use mathlib.Core.Path.{◌≡◌, refl, sym}
use mathlib.Core.Bool.{Bool, true, false, not, false≢true}
use mathlib.Core.List.{List}
use native.Mathlib.Omega.{arith}
use lib.ListN.{length}
use borrow.Author.Count.{below_none, below_more}
use Rattle.bigendian.specs.Numbers.{number, Bytes}
use Rattle.outcomes.proofs.Laws.{first_all}
use Rattle.name_layout.specs.Layout.{storage, text_at, tag_count}
use Rattle.name_layout.specs.Keys.{key_of, packed}
use Rattle.name_tests.proofs.Tests.{order_ok}
use Rattle.name.proofs.Acceptances.{FitAndSpeak, fit_more, faultless, in_limits}
use Rattle.name.proofs.surely_sound.Goals as goal

-- the record before record i has a language that is allowed and a string that keeps within storage
spoken : (t : List ℕ) → Bytes t → (i : ℕ) {last text tags start : ℕ} → FitAndSpeak t (i - 1)
    → (0 < i → (last ≡ packed (key_of t (i - 1))) × (text ≡ number 4 t (text_at (i - 1))))
    → tags ≡ tag_count t → start ≡ storage t → start ≤ length t
    → (last / 65536 % 65536 < 32768 + tags) × (text / 65536 + text % 65536 ≤ length t - start)
    → FitAndSpeak t i
spoken t b i {last} {text} f read e s l h =
    let limits : (last / 65536 % 65536 < 32768 + tag_count t) × (storage t + (text / 65536 + text % 65536) ≤ length t) =
    (omega (arith, e), omega (arith, s)) in
    fit_more t i f (λ k. in_limits t b (i - 1) (read k).0 (read k).1 limits)

not_true : (b : Bool) → not b ≡ true → b ≡ false
not_true true e = sym e
not_true false e = refl

pub returns-then-framed-start : goal.returns-then-framed-start
returns-then-framed-start = (λ c e. absurd (false≢true e))

pub loop-i-init : goal.loop-i-init
loop-i-init c = (below_none _, λ i l. absurd (omega arith), λ l. absurd (omega arith))

pub returns-then-out_of_limits : goal.returns-then-out_of_limits
returns-then-out_of_limits = (λ c e. absurd (false≢true e))

pub returns-then-out_of_order : goal.returns-then-out_of_order
returns-then-out_of_order = (λ c e. absurd (false≢true e))

pub loop-i-preserved : goal.loop-i-preserved
loop-i-preserved c =
    let t = c.args.framed.now.table.bytes.now in
    let i = c.loop-i.i in
    let e : i + 1 - 1 ≡ i = omega arith in
    let bytes : Bytes t = c.args.framed.now.table.each in
    let here = c.key-here.ensures in
    let rises = order_ok t bytes i (λ l. omega (arith, c.out_of_order.ensures c.if-out_of_order.false l, (c.loop-i.invariant.2 l).0, here)) in
    let below =
    spoken t bytes i c.loop-i.invariant.1 c.loop-i.invariant.2 c.tag_count.ensures c.storage_start-start.ensures c.if-framed-start.false
    (c.out_of_limits.ensures c.if-out_of_limits.false) in
    (below_more _ i c.loop-i.invariant.0 rises, rw e below, λ l. rw e (here, c.text_number-text.ensures))

pub returns : goal.returns
returns c = λ e.
    let t = c.args.framed.now.table.bytes.now in
    let bytes : Bytes t = c.args.framed.now.table.each in
    let end : c.loop-i.i ≡ c.record_count-i-end.result = omega (arith, c.loop-i-test.false, c.loop-i.auto.i-end) in
    let below =
    spoken t bytes c.loop-i.i c.loop-i.invariant.1 c.loop-i.invariant.2 c.tag_count.ensures c.storage_start-start.ensures c.if-framed-start.false
    (c.out_of_limits-2.ensures (not_true _ e)) in
    rw (← c.record_count-i-end.ensures, ← end) ((first_all _ _).1 (faultless _ _ c.loop-i.invariant.0 below))

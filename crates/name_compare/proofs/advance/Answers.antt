-- Each way out passes the least key that is left: on one side, or on both.
use Prim.Native.Nat.{ℕ, ◌+◌, ◌<◌}
use mathlib.Core.Path.{◌≡◌, sym, ◌∙◌}
use mathlib.Core.List.{List}
use native.Mathlib.Omega.{arith}
use Rattle.std.specs.Prelude.{Option as Maybe, Some, None}
use Rattle.name_compare.specs.declared.Which.{Which}
use Rattle.name_compare.specs.declared.Which.TheVariants.{OtherBytes}
use Rattle.name_layout.specs.Layout.{count, bytes_of}
use Rattle.name_layout.proofs.Layouts.{word_lt}
use Rattle.name.proofs.Acceptances.{record_inside}
use Rattle.comparing.specs.Lists.{entry_of}
use Rattle.same_bytes.specs.Same.{same}
use Rattle.name_compare.specs.Differences.{in_both, entry_for, key_numbered}
use Rattle.name_compare.specs.Steps.{key_at, Both, both_of, passed, Stepped}
use Rattle.name_compare.proofs.KeyNumbers.{key_below}
use Rattle.name_compare.proofs.Merges.{passes_same, passes_other, left_only_lem, right_only_lem, in_both_lem}
use Rattle.name_compare.proofs.advance.Goals as goal

-- the key stands on both sides
both : (left right : List ℕ) (i j : ℕ) {other : ℕ} (w : Maybe Which) → Both left right → i < count left → j < count right
    → other ≡ key_at right j → other ≡ key_at left i
    → entry_of (entry_for (key_numbered (key_at left i)) (in_both (same (bytes_of left i) (bytes_of right j)))) ≡ passed (key_at left i) w
    → Stepped left right i j (record { key = key_at left i; which = w; left = i + 1; right = j + 1 })
both left right i j w k l r f met s =
    record {
      on_left = omega arith;
      on_right = omega arith;
      onward = omega arith;
      lists = λ out x. in_both_lem left right k x (key_below left k.left_bytes i) l r (sym f ∙ met) w s;
    }

pub invariant_of-key-clause-inside : goal.invariant_of-key-clause-inside
invariant_of-key-clause-inside c = record_inside _ c.args.pair.now.right.accepted _ (omega (arith, c.requires, c.record_count.ensures))

pub overflow_add-j : goal.overflow_add-j
overflow_add-j c = omega (arith, c.requires, word_lt c.args.pair.now.right.bytes.now c.args.pair.now.right.each 2)

pub returns-then-i-record_count : goal.returns-then-i-record_count
returns-then-i-record_count c = let n = c.record_count.ensures in
    let k = both_of c.args.pair.now in
    rw (c.new.ensures, c.key-key.ensures)
    (record {
      on_left = c.requires.on_left;
      on_right = omega (arith, c.requires);
      onward = omega arith;
      lists = λ out x. right_only_lem _ _ k x (key_below _ k.right_bytes _) (omega (arith, c.requires)) (λ h. absurd (omega arith));
    })

pub invariant_of-key-2-clause-inside : goal.invariant_of-key-2-clause-inside
invariant_of-key-2-clause-inside c = record_inside _ c.args.pair.now.left.accepted _ (omega (arith, c.requires, c.record_count.ensures))

pub returns-then-j-record_count : goal.returns-then-j-record_count
returns-then-j-record_count c = let m = c.record_count.ensures in
    let n = c.record_count-2.ensures in
    let k = both_of c.args.pair.now in
    rw (c.new-then-j-record_count.ensures, c.key-key-2.ensures)
    (record {
      on_left = omega (arith, c.requires);
      on_right = c.requires.on_right;
      onward = omega arith;
      lists = λ out x. left_only_lem _ _ k x (key_below _ k.left_bytes _) (omega (arith, c.requires)) (λ h. absurd (omega arith));
    })

pub invariant_of-key-3-clause-inside : goal.invariant_of-key-3-clause-inside
invariant_of-key-3-clause-inside c = record_inside _ c.args.pair.now.right.accepted _ (omega (arith, c.requires, c.record_count-2.ensures))

pub returns-then-key-other : goal.returns-then-key-other
returns-then-key-other c = let m = c.record_count.ensures in
    let k = both_of c.args.pair.now in
    let e = c.key-key-2.ensures in
    let f = c.key-other.ensures in
    rw (c.new-then-key-other.ensures, e)
    (record {
      on_left = omega (arith, c.requires);
      on_right = c.requires.on_right;
      onward = omega arith;
      lists = λ out x. left_only_lem _ _ k x (key_below _ k.left_bytes _) (omega (arith, c.requires)) (λ h. rw (e, f) at c.if-key-other.true);
    })

pub returns-then-other-key : goal.returns-then-other-key
returns-then-other-key c = let n = c.record_count-2.ensures in
    let k = both_of c.args.pair.now in
    let e = c.key-key-2.ensures in
    let f = c.key-other.ensures in
    rw (c.new-then-other-key.ensures, f)
    (record {
      on_left = c.requires.on_left;
      on_right = omega (arith, c.requires);
      onward = omega arith;
      lists = λ out x. right_only_lem _ _ k x (key_below _ k.right_bytes _) (omega (arith, c.requires)) (λ h. rw (e, f) at c.if-other-key.true);
    })

pub same_string-requires : goal.same_string-requires
same_string-requires c = (omega (arith, c.requires, c.record_count.ensures), omega (arith, c.requires, c.record_count-2.ensures))

pub returns-then-same_string : goal.returns-then-same_string
returns-then-same_string c =
    let x = c.args.pair.now in
    let l : c.args.i < count x.left.bytes.now = omega (arith, c.requires, c.record_count.ensures) in
    let r : c.args.j < count x.right.bytes.now = omega (arith, c.requires, c.record_count-2.ensures) in
    let met : c.key-other.result ≡ c.key-key-2.result = omega arith in
    let passes = passes_same _ _ (sym c.same_string.ensures ∙ c.if-same_string.true) in
    rw (c.new-then-same_string.ensures, c.key-key-2.ensures) (both _ _ _ _ None (both_of c.args.pair.now) l r c.key-other.ensures (met ∙ c.key-key-2.ensures) passes)

pub returns : goal.returns
returns c =
    let x = c.args.pair.now in
    let l : c.args.i < count x.left.bytes.now = omega (arith, c.requires, c.record_count.ensures) in
    let r : c.args.j < count x.right.bytes.now = omega (arith, c.requires, c.record_count-2.ensures) in
    let met : c.key-other.result ≡ c.key-key-2.result = omega arith in
    let passes = passes_other _ _ (sym c.same_string.ensures ∙ c.if-same_string.false) in
    rw (c.new-2.ensures, c.key-key-2.ensures) (both _ _ _ _ (Some OtherBytes) (both_of c.args.pair.now) l r c.key-other.ensures (met ∙ c.key-key-2.ensures) passes)

-- Each test says that its rule is broken exactly when the rule's proposition fails; so the verdict is that every rule is kept exactly when
-- every proposition holds, and else the first rule broken.
-- Assumes nothing.
use Prim.Native.Nat.{ℕ, zero, suc, ◌+◌, ◌*◌, ◌/◌, ◌^◌, ◌<◌, ◌≤◌}
use mathlib.Core.Path.{◌≡◌, refl, sym, ◌∙◌, ap}
use mathlib.Core.Logic.Iff
use mathlib.Core.Logic.{◌↔◌}
use mathlib.Core.Bool.{true, false, ◌&&◌, ◌||◌, false≢true}
use mathlib.Core.Option.{Option, none, some}
use native.Mathlib.Nat.{mod-lt}
use native.Mathlib.Decide.{dec_lt}
use native.Mathlib.Omega.{arith}
use lib.Dec.{ltb, leb, eqb}
use lib.ListN.{get_or-eq_default}
use lib.Pow.{pow_pos, mod-pow-add, shr-shr}
use borrow.Author.Tests.{le-ltb, ltb-true, ltb-false}
use Rattle.outcomes.specs.Firsts.{when, ◌then◌, first_among}
use Rattle.outcomes.specs.Outcomes.{Refusal, carrying}
use Rattle.outcomes.proofs.Laws.{none_exactly, lowest_exactly}
use Rattle.outcomes.proofs.Tests.{below, not_below, at_most, not_at_most, equal, or_false, and_false, holds, implies}
use Rattle.os2_rules.specs.Bits.{bit, bits}
use Rattle.os2_rules.specs.Rules.{Clear, WeightRule, WidthRule, TypeRule, RightsRule, SelectionRule, RegularRule, SizesRule, Rule, Rules, FirstBroken}
use Rattle.os2_rules.specs.Tests.{any_set, weight_broken, width_broken, type_broken, rights_broken, selection_broken, regular_broken, sizes_broken, tests, broken, verdict_of, kept}
use Rattle.os2_rules.specs.declared.Values.{Values}

-- ---- bits

pub bit_small : (k x : ℕ) → bit k x < 2
unfolding bit
bit_small k x = mod-lt (x / 2 ^ k) (omega arith)

-- a bit is set, or clear
pub bit_set : (k x : ℕ) → (ltb 0 (bit k x) ≡ true) ↔ (bit k x ≡ 1)
bit_set k x = (λ e. omega (arith, ltb-true 0 (bit k x) e, bit_small k x), λ e. rw e)

pub bit_clear : (k x : ℕ) → (ltb 0 (bit k x) ≡ false) ↔ (bit k x ≡ 0)
bit_clear k x = (λ e. omega (arith, ltb-false 0 (bit k x) e), λ e. rw e)

-- one bit more
bits_more : (k n x : ℕ) → bits k (suc n) x ≡ bit (k + n) x * 2 ^ n + bits k n x
unfolding bit bits
bits_more k n x =
    let e : suc n ≡ 1 + n = omega arith in
    rw (e, mod-pow-add (x / 2 ^ k) 1 n, shr-shr x k n)

-- some bits make 0 exactly when each is clear
bits_clear : (k n x : ℕ) → bits k n x ≡ 0 → (j : ℕ) → k ≤ j → j < k + n → bit j x ≡ 0
bits_clear k zero x e j h l = absurd (omega arith)
bits_clear k (suc n) x e j h l = at (dec_lt j (k + n)) (bits_clear k n x (omega (arith, parts)) j h)
  where
    parts : bit (k + n) x * 2 ^ n + bits k n x ≡ 0
    parts = sym (bits_more k n x) ∙ e

    top : bit (k + n) x ≡ 0
    top = go (bit (k + n) x) (bit_small (k + n) x) parts
      where
        go : (b : ℕ) → b < 2 → b * 2 ^ n + bits k n x ≡ 0 → b ≡ 0
        go zero s d = refl
        go (suc zero) s d = absurd (omega (arith, pow_pos n))
        go (suc (suc b)) s d = absurd (omega arith)

    at : Dec (j < k + n) → (j < k + n → bit j x ≡ 0) → bit j x ≡ 0
    at (yes m) r = r m
    at (no m) r = let d : j ≡ k + n = omega arith in rw d top

clear_bits : (k n x : ℕ) → ((j : ℕ) → k ≤ j → j < k + n → bit j x ≡ 0) → bits k n x ≡ 0
unfolding bits
clear_bits k zero x h = omega (arith, mod-lt (x / 2 ^ k) {m = 1} (omega arith))
clear_bits k (suc n) x h =
    rw (bits_more k n x, h (k + n) (omega arith) (omega arith), clear_bits k n x (λ j a b. h j a (omega arith))) (omega arith)

-- none of the bits from k to e is set exactly when they are clear
clear : (k n e x : ℕ) → k + n ≡ suc e → (any_set k n x ≡ false) ↔ Clear k e x
clear k n e x d = (
  λ f j a b. bits_clear k n x (omega (arith, ltb-false 0 (bits k n x) f)) j a (omega arith),
  λ h. le-ltb 0 (bits k n x) (omega (arith, clear_bits k n x (λ j a b. h j a (omega arith)))),
)

-- ---- each rule

-- a number is in a range exactly when it is neither below nor above
range_exactly : (x least most : ℕ) → ((ltb x least || ltb most x) ≡ false) ↔ ((least ≤ x) × (x ≤ most))
range_exactly x least most = Iff.trans (or_false (ltb x least) (ltb most x)) (Iff.and (not_below x least) (not_below most x))

pub weight_exactly : (x : ℕ) → (weight_broken x ≡ false) ↔ WeightRule x
unfolding weight_broken
weight_exactly x = range_exactly x _ _

pub width_exactly : (x : ℕ) → (width_broken x ≡ false) ↔ WidthRule x
unfolding width_broken
width_exactly x = range_exactly x _ _

pub type_exactly : (x : ℕ) → (type_broken x ≡ false) ↔ TypeRule x
unfolding type_broken
type_exactly x =
    Iff.trans (or_false (any_set 0 1 x) (any_set 4 4 x || any_set 10 6 x))
    (Iff.and (clear 0 1 0 x refl)
    (Iff.trans (or_false (any_set 4 4 x) (any_set 10 6 x)) (Iff.and (clear 4 4 7 x refl) (clear 10 6 15 x refl))))

pub rights_exactly : (w x : ℕ) → (rights_broken w x ≡ false) ↔ RightsRule w x
unfolding rights_broken
rights_exactly w x = Iff.trans (and_false _ _) (implies (at_most _ w) (not_below _ (bit 1 x + bit 2 x + bit 3 x)))

pub selection_exactly : (w x : ℕ) → (selection_broken w x ≡ false) ↔ SelectionRule w x
unfolding selection_broken
selection_exactly w x =
    Iff.trans (or_false (any_set 10 6 x) (ltb w 4 && any_set 7 3 x))
    (Iff.and (clear 10 6 15 x refl)
    (Iff.trans (and_false (ltb w 4) (any_set 7 3 x)) (implies (below w 4) (clear 7 3 9 x refl))))

pub regular_exactly : (x : ℕ) → (regular_broken x ≡ false) ↔ RegularRule x
unfolding regular_broken bit bits
regular_exactly x =
    Iff.trans (and_false (any_set 6 1 x) (any_set 0 1 x || any_set 5 1 x))
    (implies (bit_set 6 x) (Iff.trans (or_false (any_set 0 1 x) (any_set 5 1 x)) (Iff.and (bit_clear 0 x) (bit_clear 5 x))))

pub sizes_exactly : (w lo up : ℕ) → (sizes_broken w lo up ≡ false) ↔ SizesRule w lo up
unfolding sizes_broken
sizes_exactly w lo up = Iff.trans (and_false (eqb w 5) (leb up lo)) (implies (equal w 5) (not_at_most up lo))

-- ---- the rule of a number, and the verdict

-- a test by its number finds its rule broken exactly when the rule does not hold
pub rule_exactly : (v : Values) (k : ℕ) → (broken v k ≡ false) ↔ Rule v k
unfolding broken
rule_exactly v k = (there, back k)
  where
    there : broken v k ≡ false → Rule v k
    there d =
        record {
          rule_1 = λ e. (weight_exactly v.weight).0 (rw e at d);
          rule_2 = λ e. (width_exactly v.width).0 (rw e at d);
          rule_3 = λ e. (type_exactly v.fstype).0 (rw e at d);
          rule_4 = λ e. (rights_exactly v.version v.fstype).0 (rw e at d);
          rule_5 = λ e. (selection_exactly v.version v.fsselection).0 (rw e at d);
          rule_6 = λ e. (regular_exactly v.fsselection).0 (rw e at d);
          rule_7 = λ e. (sizes_exactly v.version v.lower v.upper).0 (rw e at d);
        }

    back : (j : ℕ) → Rule v j → broken v j ≡ false
    back zero r = refl
    back (suc zero) r = (weight_exactly v.weight).1 (r.rule_1 refl)
    back (suc (suc zero)) r = (width_exactly v.width).1 (r.rule_2 refl)
    back (suc (suc (suc zero))) r = (type_exactly v.fstype).1 (r.rule_3 refl)
    back (suc (suc (suc (suc zero)))) r = (rights_exactly v.version v.fstype).1 (r.rule_4 refl)
    back (suc (suc (suc (suc (suc zero))))) r = (selection_exactly v.version v.fsselection).1 (r.rule_5 refl)
    back (suc (suc (suc (suc (suc (suc zero)))))) r = (regular_exactly v.fsselection).1 (r.rule_6 refl)
    back (suc (suc (suc (suc (suc (suc (suc zero))))))) r = (sizes_exactly v.version v.lower v.upper).1 (r.rule_7 refl)
    back (suc (suc (suc (suc (suc (suc (suc (suc j)))))))) r = refl

-- a rule after the seventh is none that can be broken
no_eighth : (v : Values) (k : ℕ) → 8 ≤ k → broken v k ≡ false
unfolding broken
no_eighth v k h = get_or-eq_default (tests v) false h

pub kept_true : (o : Option Refusal) → kept o ≡ true → o ≡ none
kept_true none e = refl
kept_true (some r) e = absurd (false≢true e)

-- no rule is broken exactly when every rule holds
pub kept_exactly : (v : Values) → (verdict_of v ≡ none) ↔ Rules v
unfolding verdict_of
kept_exactly v = (
  λ e k. (rule_exactly v k).0 (at e k (dec_lt k 8)),
  λ r. (none_exactly (broken v) (carrying 3) 8).1 (λ k l. (rule_exactly v k).1 (r k)),
)
  where
    at : verdict_of v ≡ none → (k : ℕ) → Dec (k < 8) → broken v k ≡ false
    at e k (yes l) = (none_exactly (broken v) (carrying 3) 8).0 e k l
    at e k (no l) = no_eighth v k (omega arith)

-- a refusal of the rules is 3 with the first rule broken
pub broken_first : (v : Values) (r : Refusal) → verdict_of v ≡ some r → (k : ℕ) × (carrying 3 k ≡ r) × FirstBroken v k
unfolding verdict_of
broken_first v r e =
    let l = (lowest_exactly (broken v) (carrying 3) 8 r).0 e in (
      l.place,
      l.is,
      record {
        broken = (holds (broken v l.place) (rule_exactly v l.place)).0 l.holds;
        earlier = λ j m. (rule_exactly v j).0 (l.earlier j m);
      },
    )

-- the verdict names a rule exactly when that is the first rule broken
pub broken_exactly : (v : Values) (k : ℕ) → (verdict_of v ≡ some (carrying 3 k)) ↔ FirstBroken v k
unfolding verdict_of
broken_exactly v k = (there, λ f. back f (dec_lt k 8))
  where
    there : verdict_of v ≡ some (carrying 3 k) → FirstBroken v k
    there e =
        let b = broken_first v (carrying 3 k) e in
        let d : some b.0 ≡ some k = ap (λ (r : Refusal). r.carried) b.1 in
        let i : b.0 ≡ k = cc in
        rw i at b.2

    back : FirstBroken v k → Dec (k < 8) → verdict_of v ≡ some (carrying 3 k)
    back f (yes l) =
        (lowest_exactly (broken v) (carrying 3) 8 (carrying 3 k)).1 (
        record {
          place = k;
          inside = l;
          holds = (holds (broken v k) (rule_exactly v k)).1 f.broken;
          is = refl;
          earlier = λ j m. (rule_exactly v j).1 (f.earlier j m);
        }
        )
    back f (no l) = absurd (f.broken ((rule_exactly v k).0 (no_eighth v k (omega arith))))

-- ---- an example

-- weight 400 and width 5, all others 0, as in document 01's first starred table, keep every rule
pub plain_kept : verdict_of (record { version = 0; weight = 400; width = 5; fstype = 0; fsselection = 0; lower = 0; upper = 0 }) ≡ none
unfolding verdict_of first_among ◌then◌ when broken weight_broken width_broken type_broken rights_broken selection_broken regular_broken sizes_broken bit bits
plain_kept = refl

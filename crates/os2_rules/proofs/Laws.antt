-- Laws that the proofs of this crate share.
-- Assumes nothing.
use Prim.Native.Nat.{ℕ, ◌+◌, ◌/◌, ◌%◌, ◌^◌, ◌<◌}
use mathlib.Core.Path.{◌≡◌, refl, sym}
use mathlib.Core.Bool.{Bool, true, false, cond, not, ◌||◌, and-false}
use mathlib.Core.Option.{Option, none, some}
use mathlib.Core.List.{[], ◌∷◌}
use native.Mathlib.Nat.{div-one}
use native.Mathlib.Omega.{arith}
use lib.ListN.{get_or}
use borrow.Author.Rules.{rules}
use borrow.Author.Tests.{lt-ltb, le-ltb, le-leb, lt-leb, eq-eqb, ne_eqb}
use Rattle.outcomes.specs.Firsts.{when, ◌then◌, first_among}
use Rattle.outcomes.specs.Outcomes.{Refusal, carrying}
use Rattle.outcomes.proofs.Laws.{when_none, when_some, first_more, first_stop}
use Rattle.os2_rules.specs.Bits.{bit, bits}
use Rattle.os2_rules.specs.Tests.{weight_broken, width_broken, type_broken, rights_broken, selection_broken, regular_broken, sizes_broken, broken, verdict_of, kept}
use Rattle.os2_rules.specs.declared.Values.{Values}

-- for `search`: what closes a need, and the tests that the branches on the way decide
pub ruleset decided = (rules, lt-ltb, le-ltb, le-leb, lt-leb, eq-eqb, ne_eqb, div-one)

-- the seven tests as one chain
chain : (a b c d e f g : Bool) →
    kept (first_among (λ k. when (get_or (false ∷ a ∷ b ∷ c ∷ d ∷ e ∷ f ∷ g ∷ []) k false) (carrying 3 k)) 8)
    ≡ cond a false (cond b false (cond (c || d) false (cond (e || f) false (not g))))
unfolding first_among ◌then◌ when
chain true b c d e f g = refl
chain false true c d e f g = refl
chain false false true d e f g = refl
chain false false false true e f g = refl
chain false false false false true f g = refl
chain false false false false false true g = refl
chain false false false false false false true = refl
chain false false false false false false false = refl

-- ---- the verdict, rule by rule

-- one of rules 3 and 4 is broken, and one of rules 5 and 6
abbrev pub type_or_rights : Values → Bool
type_or_rights v = type_broken v.fstype || rights_broken v.version v.fstype

abbrev pub selection_or_regular : Values → Bool
selection_or_regular v = selection_broken v.version v.fsselection || regular_broken v.fsselection

module _ (v : Values) where
  -- what rule k's place of the verdict's order gives
  abbrev place : ℕ → Option Refusal
  place k = when (broken v k) (carrying 3 k)

  -- no rule below k is broken
  abbrev pub Passed : ℕ → Type 0
  Passed k = first_among place k ≡ none

  pub start : Passed 1
  unfolding first_among ◌then◌ when broken
  start = refl

  pub past : (k : ℕ) → Passed k → broken v k ≡ false → Passed (k + 1)
  past k p e = first_more place k p ((when_none (broken v k) (carrying 3 k)).1 e)

  pub stopped : (k : ℕ) → k < 8 → Passed k → broken v k ≡ true → some (carrying 3 k) ≡ verdict_of v
  unfolding verdict_of
  stopped k h p e = sym (first_stop place k 8 h p ((when_some (broken v k) (carrying 3 k) (carrying 3 k)).1 (e, refl)))

  -- the tests in their order say whether no rule is broken, those of rules 3 and 4 and those of rules 5 and 6 taken together
  pub kept_chain :
      kept (verdict_of v)
      ≡ cond (weight_broken v.weight) false
      (cond (width_broken v.width) false
      (cond (type_or_rights v) false
      (cond (selection_or_regular v) false
      (not (sizes_broken v.version v.lower v.upper)))))
  unfolding verdict_of first_among broken
  kept_chain =
      chain (weight_broken v.weight) (width_broken v.width) (type_broken v.fstype) (rights_broken v.version v.fstype)
      (selection_broken v.version v.fsselection) (regular_broken v.fsselection) (sizes_broken v.version v.lower v.upper)

-- an fsType of 0 breaks neither rule 3 nor rule 4
pub plain_type : (version : ℕ) → (type_broken 0 || rights_broken version 0) ≡ false
unfolding type_broken rights_broken bit bits
plain_type version = simp and-false

-- an fsSelection below 128 does not break rule 5
pub plain_selection : (version x : ℕ) → x < 128 → selection_broken version x ≡ false
unfolding selection_broken bits
plain_selection version x h =
    let high : x / 2 ^ 10 % 2 ^ 6 ≡ 0 = omega arith in
    let middle : x / 2 ^ 7 % 2 ^ 3 ≡ 0 = omega arith in
    simp (high, middle, and-false)

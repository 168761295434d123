-- Which rights and which optical sizes the definitions give is what documents 01 and 02 settle, and nothing else is.
-- Assumes nothing.
use Prim.Native.Nat.{ℕ, zero, suc, ◌≤◌}
use mathlib.Core.Path.{◌≡◌, refl}
use mathlib.Core.Logic.{◌↔◌}
use mathlib.Core.Bool.{Bool, true, false, cond}
use native.Mathlib.Omega.{arith}
use lib.Dec.{ltb, eqb}
use borrow.Author.Tests.{eq-eqb, ne_eqb, eqb-true, eqb-false}
use Rattle.os2_rules.specs.Bits.{bit}
use Rattle.os2_rules.specs.Rules.{RightsRule}
use Rattle.os2_rules.proofs.Exactly.{bit_set, bit_clear}
use Rattle.os2_style.specs.Style.{Sizes, every, upwards, between, rights_of, points, sizes_of}
use Rattle.os2_style.specs.Settled.{RightsAre, editable, preview, restricted, installable, ByOneBit, none_set, one_set, SizesAre, all, from_lower, both}

module _ (fstype : ℕ) where
  abbrev set : (k : ℕ) → ltb 0 (bit k fstype) ≡ true → bit k fstype ≡ 1
  set k = (bit_set k fstype).0

  abbrev clear : (k : ℕ) → ltb 0 (bit k fstype) ≡ false → bit k fstype ≡ 0
  clear k = (bit_clear k fstype).0

  -- whatever the bits are, there is an answer ..
  pub rights_are : RightsAre fstype (rights_of fstype)
  unfolding rights_of
  rights_are = at (ltb 0 (bit 3 fstype)) refl (ltb 0 (bit 2 fstype)) refl (ltb 0 (bit 1 fstype)) refl
    where
      at : (t : Bool) → ltb 0 (bit 3 fstype) ≡ t → (s : Bool) → ltb 0 (bit 2 fstype) ≡ s → (r : Bool) → ltb 0 (bit 1 fstype) ≡ r →
          RightsAre fstype (rights_of fstype)
      at true c s b r a = simp c (editable (set 3 c))
      at false c true b r a = simp (c, b) (preview (clear 3 c) (set 2 b))
      at false c false b true a = simp (c, b, a) (restricted (clear 3 c) (clear 2 b) (set 1 a))
      at false c false b false a = simp (c, b, a) (installable (clear 3 c) (clear 2 b) (clear 1 a))

  -- .. and one alone
  pub rights_once : {k : ℕ} → RightsAre fstype k → k ≡ rights_of fstype
  unfolding rights_of
  rights_once (editable c) = rw c
  rights_once (preview c b) = rw (c, b)
  rights_once (restricted c b a) = rw (c, b, a)
  rights_once (installable c b a) = rw (c, b, a)

  -- from version 3 on, where rule 4 holds, this is document 01's sentence
  pub since_3 : (w k : ℕ) → 3 ≤ w → RightsRule w fstype → RightsAre fstype k ↔ ByOneBit fstype k
  since_3 w k h r = (there, back k)
    where
      there : {j : ℕ} → RightsAre fstype j → ByOneBit fstype j
      there (editable c) = one_set {k = 3} (omega arith) (omega arith) c
      there (preview c b) = one_set {k = 2} (omega arith) (omega arith) b
      there (restricted c b a) = one_set {k = 1} (omega arith) (omega arith) a
      there (installable c b a) = none_set a b c

      back : (j : ℕ) → ByOneBit fstype j → RightsAre fstype j
      back zero (none_set a b c) = installable c b a
      back zero (one_set l m e) = absurd (omega arith)
      back (suc zero) (one_set l m e) = restricted (omega (arith, r h)) (omega (arith, r h)) e
      back (suc (suc zero)) (one_set l m e) = preview (omega (arith, r h)) e
      back (suc (suc (suc zero))) (one_set l m e) = editable e
      back (suc (suc (suc (suc j)))) (one_set l m e) = absurd (omega arith)

module _ (lower upper : ℕ) where
  pub sizes_are : SizesAre lower upper (sizes_of lower upper)
  unfolding sizes_of
  sizes_are = at (eqb upper 65535) refl (eqb lower 0) refl
    where
      at : (s : Bool) → eqb upper 65535 ≡ s → (t : Bool) → eqb lower 0 ≡ t →
          SizesAre lower upper (cond s (cond t every (upwards (points lower))) (between (points lower) (points upper)))
      at true u true l = all (eqb-true lower 0 l) (eqb-true upper 65535 u)
      at true u false l = from_lower (eqb-false lower 0 l) (eqb-true upper 65535 u)
      at false u t l = both (eqb-false upper 65535 u)

  pub sizes_once : {s : Sizes} → SizesAre lower upper s → s ≡ sizes_of lower upper
  unfolding sizes_of
  sizes_once (all l u) = rw (eq-eqb upper 65535 u, eq-eqb lower 0 l)
  sizes_once (from_lower l u) = rw (eq-eqb upper 65535 u, ne_eqb lower 0 l)
  sizes_once (both u) = rw (ne_eqb upper 65535 u)

-- The three cases of an answer: what each test of `case_of` decides, and what the case of a value gives the code that reads it.
-- Assumes nothing.
use Prim.Native.Nat.{ℕ, ◌<◌, ◌≤◌}
use mathlib.Core.Path.{◌≡◌, refl}
use mathlib.Core.Logic.Iff
use mathlib.Core.Logic.{◌⊎◌, ◌↔◌}
use mathlib.Core.Bool.{Bool, true, false, ◌&&◌}
use native.Mathlib.Omega.{arith}
use borrow.Author.Rules.{rules}
use borrow.Author.Tests.{lt-ltb, le-ltb}
use Rattle.outcomes.proofs.Tests.{below, not_below, and_true, and_false, or_true, or_false, implies, either}
use Rattle.os2_questions.specs.declared.Case.TheVariants as Case·
use Rattle.os2_questions.specs.Cases.{above, unknown, case_of}

-- for `search`: what closes a need, and the tests that the branches on the way decide
pub ruleset decided = (rules, lt-ltb, le-ltb)

-- ---- the tests

pub above_exactly : (p L : ℕ) → (above p L ≡ true) ↔ (L < p)
unfolding above
above_exactly p L = below L p

pub not_above : (p L : ℕ) → (above p L ≡ false) ↔ (p ≤ L)
unfolding above
not_above p L = not_below L p

module _ (p : ℕ) (whole : Bool) (L w : ℕ) where
  pub unknown_exactly : (unknown p whole L w ≡ true) ↔ ((L < p) ⊎ ((whole ≡ true) × (L < w)))
  unfolding unknown
  unknown_exactly =
      Iff.trans (or_true (above p L) (whole && above w L))
      (either (above_exactly p L) (Iff.trans (and_true whole (above w L)) (Iff.and Iff.rfl (above_exactly w L))))

  pub known_exactly : (unknown p whole L w ≡ false) ↔ ((p ≤ L) × (whole ≡ true → w ≤ L))
  unfolding unknown
  known_exactly =
      Iff.trans (or_false (above p L) (whole && above w L))
      (Iff.and (not_above p L) (Iff.trans (and_false whole (above w L)) (implies Iff.rfl (not_above w L))))

  -- ---- the case

  pub case_not_known : unknown p whole L w ≡ true → case_of p whole L w ≡ Case·.NotKnown
  unfolding case_of
  case_not_known e = rw e

  pub case_absent : unknown p whole L w ≡ false → above p w ≡ true → case_of p whole L w ≡ Case·.Absent
  unfolding case_of
  case_absent e d = rw (e, d)

  pub case_value : unknown p whole L w ≡ false → above p w ≡ false → case_of p whole L w ≡ Case·.Value
  unfolding case_of
  case_value e d = rw (e, d)

  -- what is known and there
  pub record Held : Type 0 where
    pub known : p ≤ L
    pub there : p ≤ w
    pub old : whole ≡ true → w ≤ L

  pub held : case_of p whole L w ≡ Case·.Value → Held
  unfolding case_of
  held f = at (unknown p whole L w) refl (above p w) refl
    where
      at : (s : Bool) → unknown p whole L w ≡ s → (t : Bool) → above p w ≡ t → Held
      at true d t e = let g = rw d at f in let z : ◌≡◌ {A = ℕ} 0 1 = cc in absurd (omega arith)
      at false d true e = let g = rw (d, e) at f in let z : ◌≡◌ {A = ℕ} 0 1 = cc in absurd (omega arith)
      at false d false e = let k = known_exactly.0 d in record { known = k.0; there = (not_above p w).0 e; old = k.1 }

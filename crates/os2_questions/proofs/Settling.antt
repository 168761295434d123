-- What document 01 settles of a question before any value is read is what the definitions say: each test of theirs is matched with its proposition.
-- Assumes nothing.
use Prim.Native.Nat.{ℕ, ◌<◌, ◌≤◌}
use mathlib.Core.Path.{◌≡◌, refl}
use mathlib.Core.Logic.Iff
use mathlib.Core.Logic.{inl, inr, ⊎_elim, ◌↔◌}
use mathlib.Core.Bool.{Bool, true, false, cond, false≢true}
use mathlib.Core.Option.{none, some}
use mathlib.Core.List.{List}
use native.Mathlib.Omega.{arith}
use lib.Dec.{ltb}
use borrow.Author.Tests.{lt-ltb, le-ltb, ltb-true, ltb-false}
use Rattle.outcomes.specs.Firsts.{when}
use Rattle.outcomes.specs.Outcomes.{Refusal, bare}
use Rattle.outcomes.proofs.Laws.{when_none, when_some}
use Rattle.outcomes.proofs.Tests.{below, not_below}
use Rattle.os2_fields.specs.Fields.{version}
use Rattle.os2_questions.specs.declared.Question.{Question}
use Rattle.os2_questions.specs.declared.Question.TheVariants.{Field, SelectionBit, UnicodeBit, CodePageBit, Rights, StylePosition, OpticalSizes}
use Rattle.os2_questions.specs.Questions.{own_refusal, since, on_whole}
use Rattle.os2_questions.specs.Cases.{unknown}
use Rattle.os2_questions.specs.Settled.{OwnRefusal, no_field, no_selection_bit, no_unicode_bit, no_code_page_bit}
use Rattle.os2_questions.specs.Settled.{CameIn, field_came, selection_came, selection_came_later, unicode_came, code_page_came, rights_came, style_came, optical_came}
use Rattle.os2_questions.specs.Settled.{OnWhole, rights_whole, style_whole, optical_whole, Later, after, newer}
use Rattle.os2_questions.proofs.Cases.{unknown_exactly}

-- ---- the number

-- a number in its range, and one above it
pub under : (n k : ℕ) (r : Refusal) → (when (ltb n k) r ≡ none) ↔ (k ≤ n)
under n k r = Iff.trans (when_none (ltb n k) r) (not_below n k)

over : (n k : ℕ) (r s : Refusal) → (when (ltb n k) r ≡ some s) ↔ ((n < k) × (r ≡ s))
over n k r s = Iff.trans (when_some (ltb n k) r s) (Iff.and (below n k) Iff.rfl)

-- each refusal is of a number above its range ..
pub own : (q : Question) (r : Refusal) → own_refusal q ≡ some r → (n : ℕ) × (bare n ≡ r) × OwnRefusal q n
unfolding own_refusal
own (Field k) r e = let o = (over _ k _ r).0 e in (6, o.1, no_field {k = k} (omega (arith, o.0)))
own (SelectionBit n) r e = let o = (over _ n _ r).0 e in (7, o.1, no_selection_bit {n = n} (omega (arith, o.0)))
own (UnicodeBit n) r e = let o = (over _ n _ r).0 e in (7, o.1, no_unicode_bit {n = n} (omega (arith, o.0)))
own (CodePageBit n) r e = let o = (over _ n _ r).0 e in (7, o.1, no_code_page_bit {n = n} (omega (arith, o.0)))
own Rights r e = let z : ◌≡◌ {A = ℕ} 0 1 = cc in absurd (omega arith)
own StylePosition r e = let z : ◌≡◌ {A = ℕ} 0 1 = cc in absurd (omega arith)
own OpticalSizes r e = let z : ◌≡◌ {A = ℕ} 0 1 = cc in absurd (omega arith)

-- .. and of every such number
pub own_is : {q : Question} {n : ℕ} → OwnRefusal q n → own_refusal q ≡ some (bare n)
unfolding own_refusal
own_is (no_field {k} h) = (over _ k _ (bare 6)).1 (omega arith, refl)
own_is (no_selection_bit {n} h) = (over _ n _ (bare 7)).1 (omega arith, refl)
own_is (no_unicode_bit {n} h) = (over _ n _ (bare 7)).1 (omega arith, refl)
own_is (no_code_page_bit {n} h) = (over _ n _ (bare 7)).1 (omega arith, refl)

-- ---- what came in when

-- what came in has a number in its range, and came in when the definition says ..
pub came_since : {q : Question} {p : ℕ} → CameIn q p → (own_refusal q ≡ none) × (p ≡ since q)
unfolding own_refusal since
came_since (field_came {k} h) = ((under _ k _).1 (omega arith), refl)
came_since (selection_came {n} h) = ((under _ n _).1 (omega arith), rw (lt-ltb n 7 (omega arith)))
came_since (selection_came_later {n} h l) = ((under _ n _).1 (omega arith), rw (le-ltb n 7 h))
came_since (unicode_came {n} h) = ((under _ n _).1 (omega arith), refl)
came_since (code_page_came {n} h) = ((under _ n _).1 (omega arith), refl)
came_since rights_came = (refl, refl)
came_since style_came = (refl, refl)
came_since optical_came = (refl, refl)

-- .. and every number in its range is of something that came in
pub came : (q : Question) → own_refusal q ≡ none → CameIn q (since q)
unfolding own_refusal since
came (Field k) e = field_came {k = k} (omega (arith, (under _ k _).0 e))
came (SelectionBit n) e = at (ltb n 7) refl
  where
    at : (t : Bool) → ltb n 7 ≡ t → CameIn (SelectionBit n) (cond t 0 4)
    at true d = selection_came {n = n} (omega (arith, ltb-true n 7 d))
    at false d = selection_came_later {n = n} (ltb-false n 7 d) (omega (arith, (under _ n _).0 e))
came (UnicodeBit n) e = unicode_came {n = n} (omega (arith, (under _ n _).0 e))
came (CodePageBit n) e = code_page_came {n = n} (omega (arith, (under _ n _).0 e))
came Rights e = rights_came
came StylePosition e = style_came
came OpticalSizes e = optical_came

-- ---- what a level does not know

whole : (q : Question) → on_whole q ≡ true → OnWhole q
unfolding on_whole
whole (Field k) e = absurd (false≢true e)
whole (SelectionBit n) e = absurd (false≢true e)
whole (UnicodeBit n) e = absurd (false≢true e)
whole (CodePageBit n) e = absurd (false≢true e)
whole Rights e = rights_whole
whole StylePosition e = style_whole
whole OpticalSizes e = optical_whole

whole_is : {q : Question} → OnWhole q → (on_whole q ≡ true) × (own_refusal q ≡ none)
unfolding on_whole own_refusal
whole_is rights_whole = (refl, refl)
whole_is style_whole = (refl, refl)
whole_is optical_whole = (refl, refl)

-- a question is not known to a level on a table
abbrev pub unknown_to : ℕ → List ℕ → Question → Bool
unknown_to L b q = unknown (since q) (on_whole q) L (version b)

-- the test of "not known" says just what document 01 says of a question whose number is in its range
module _ (L : ℕ) (b : List ℕ) (q : Question) where
  pub later_is : Later L b q → (own_refusal q ≡ none) × (unknown_to L b q ≡ true)
  later_is (after c h) = let s = came_since c in (s.0, (unknown_exactly (since q) (on_whole q) L (version b)).1 (inl (rw s.1 at h)))
  later_is (newer o h) = let s = whole_is o in (s.1, (unknown_exactly (since q) (on_whole q) L (version b)).1 (inr (s.0, h)))

  pub later_exactly : own_refusal q ≡ none → (unknown_to L b q ≡ true) ↔ Later L b q
  later_exactly r = (
    λ e. ⊎_elim (λ n. after (came q r) n) (λ n. newer (whole q n.0) n.1) ((unknown_exactly (since q) (on_whole q) L (version b)).0 e),
    λ l. (later_is l).1,
  )

module _ {L H : ℕ} (h : L ≤ H) (b : List ℕ) (q : Question) where
  -- what is not known to a level is not known to a lower one
  pub unknown_down : unknown_to H b q ≡ true → unknown_to L b q ≡ true
  unknown_down e =
      (unknown_exactly (since q) (on_whole q) L (version b)).1
      (⊎_elim (λ n. inl (omega arith)) (λ n. inr (n.0, omega (arith, n.1))) ((unknown_exactly (since q) (on_whole q) H (version b)).0 e))

-- The three cases of an answer, as what a level answers on a table that it accepts.
-- Assumes nothing.
use Prim.Native.Nat.{ℕ, ◌≤◌}
use mathlib.Core.Path.{◌≡◌, refl, sym, ap, ◌∙◌}
use mathlib.Core.Logic.{◌⊎◌, inl, inr}
use mathlib.Core.Bool.{Bool, true, false}
use mathlib.Core.List.{List}
use native.Mathlib.Omega.{arith}
use Rattle.os2_fields.specs.Fields.{version}
use Rattle.os2_questions.specs.declared.Question.{Question}
use Rattle.os2_questions.specs.declared.Case.{Case}
use Rattle.os2_questions.specs.Questions.{since, on_whole}
use Rattle.os2_questions.specs.Cases.{above, case_of}
use Rattle.os2_questions.proofs.Cases.{case_not_known, case_absent, case_value}
use Rattle.os2_questions.proofs.Settling.{unknown_to, unknown_down}
use Rattle.os2_answers.specs.Values.{value, absent, not_known}
use Rattle.os2_answers.specs.Asking.{said_case, value_of, given}

module _ (L : ℕ) (b : List ℕ) (q : Question) where
  pub given_case : {c : Case} → c ≡ case_of (since q) (on_whole q) L (version b) → said_case c (value_of b q) ≡ given L b q
  unfolding given
  given_case e = ap (λ (c : Case). said_case c (value_of b q)) e

  pub given_not_known : unknown_to L b q ≡ true → given L b q ≡ not_known
  given_not_known e = sym (given_case (sym (case_not_known _ _ _ _ e)))

  pub given_absent : unknown_to L b q ≡ false → above (since q) (version b) ≡ true → given L b q ≡ absent
  given_absent e d = sym (given_case (sym (case_absent _ _ _ _ e d)))

  pub given_value : unknown_to L b q ≡ false → above (since q) (version b) ≡ false → given L b q ≡ value (value_of b q)
  given_value e d = sym (given_case (sym (case_value _ _ _ _ e d)))

  -- "not known" is said of nothing else
  pub given_unknown : given L b q ≡ not_known → unknown_to L b q ≡ true
  given_unknown f = at (unknown_to L b q) refl (above (since q) (version b)) refl
    where
      at : (s : Bool) → unknown_to L b q ≡ s → (t : Bool) → above (since q) (version b) ≡ t → unknown_to L b q ≡ true
      at true d t e = d
      at false d true e = let g = sym (given_absent d e) ∙ f in let z : ◌≡◌ {A = ℕ} 0 1 = cc in absurd (omega arith)
      at false d false e = let g = sym (given_value d e) ∙ f in let z : ◌≡◌ {A = ℕ} 0 1 = cc in absurd (omega arith)

module _ {L H : ℕ} (h : L ≤ H) (b : List ℕ) (q : Question) where
  -- a lower level answers the same, or says "not known"
  pub given_down : (given L b q ≡ given H b q) ⊎ (given L b q ≡ not_known)
  given_down = at (unknown_to L b q) refl (unknown_to H b q) refl (above (since q) (version b)) refl
    where
      at : (s : Bool) → unknown_to L b q ≡ s → (t : Bool) → unknown_to H b q ≡ t → (u : Bool) → above (since q) (version b) ≡ u →
          (given L b q ≡ given H b q) ⊎ (given L b q ≡ not_known)
      at true d t e u f = inr (given_not_known L b q d)
      at false d true e u f = inr (given_not_known L b q (unknown_down h b q e))
      at false d false e true f = inl (rw (given_absent L b q d f, given_absent H b q e f))
      at false d false e false f = inl (rw (given_value L b q d f, given_value H b q e f))

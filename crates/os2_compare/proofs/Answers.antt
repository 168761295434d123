-- Two answers differ exactly when they are not the same: by the three cases of each. A field's answer is what document 01 settles: it is `given` in the
-- words of `Answer`, and those words have an inverse.
-- Assumes nothing.
use Prim.Native.Nat.{ℕ, ◌≤◌}
use mathlib.Core.Path.{◌≡◌, refl, sym, ap, ◌∙◌, subst}
use mathlib.Core.Logic.Iff
use mathlib.Core.Logic.{⊎_elim, inl, ◌↔◌}
use mathlib.Core.Bool.{Bool, true, false, cond, not, false≢true}
use mathlib.Core.Option.{none}
use mathlib.Core.List.{List}
use native.Mathlib.Omega.{arith}
use lib.Dec.{eqb}
use lib.IntN.{ℤ, pos, negsuc}
use mir.Syntax.{w64}
use mir.Val.{SFits, to_z, of_z}
use mir.Facts.{to_z-of_z}
use Rattle.outcomes.specs.Outcomes.{answered}
use Rattle.outcomes.proofs.Laws.{unless_answered}
use Rattle.outcomes.proofs.Tests.{equal, unequal, not_is, fails}
use Rattle.level.specs.Levels.{newest}
use Rattle.os2_fields.specs.declared.catalogue.Field.{Field}
use Rattle.os2_fields.specs.Catalogue.{field_of}
use Rattle.os2_fields.specs.Fields.{version}
use Rattle.os2_fields.specs.Reading.{Lies}
use Rattle.os2_acceptance.specs.Acceptance.{judged}
use Rattle.os2_acceptance.proofs.Accepting.{judged_exactly, open_lies}
use Rattle.os2_acceptance.proofs.Saying.{once}
use Rattle.os2_questions.specs.declared.Case.{Case}
use Rattle.os2_questions.specs.declared.Case.TheVariants as Case·
use Rattle.os2_questions.specs.declared.Question.TheVariants as Question·
use Rattle.os2_questions.specs.Questions.{since, on_whole}
use Rattle.os2_questions.specs.Cases.{case_of}
use Rattle.os2_questions.specs.Settled.{field_came}
use Rattle.os2_questions.proofs.Cases.{unknown_exactly}
use Rattle.os2_questions.proofs.Settling.{came_since}
use Rattle.os2_answers.specs.declared.Answer.{Answer}
use Rattle.os2_answers.specs.declared.Answer.TheVariants.{Value, Absent, NotKnown}
use Rattle.os2_answers.specs.Values.{integer, Said, not_known, field_value}
use Rattle.os2_answers.specs.Asking.{said_case, value_of, given, ask}
use Rattle.os2_answers.specs.Replies.{said_answer}
use Rattle.os2_answers.specs.Settled.{Settled}
use Rattle.os2_answers.proofs.Cases.{given_unknown, given_not_known}
use Rattle.os2_answers.proofs.Saying.{answer_of, answer_back}
use Rattle.os2_answers.proofs.Settling.{ask_accepted, settles, settled_is}
use Rattle.os2_compare.specs.Differences.{answer_for, answer_in, kind_of, figure_of, same_figure, differ}
use Rattle.os2_compare.specs.Steps.{Entry}

-- ---- two answers

same_exactly : (x y : ℤ) → (same_figure x y ≡ true) ↔ (x ≡ y)
unfolding same_figure
same_exactly (pos x) (pos y) = (λ e. ap pos ((equal x y).0 e), λ e. (equal x y).1 (cc))
same_exactly (pos x) (negsuc y) = (λ e. absurd (false≢true e), λ e. let z : ◌≡◌ {A = ℕ} 0 1 = cc in absurd (omega arith))
same_exactly (negsuc x) (pos y) = (λ e. absurd (false≢true e), λ e. let z : ◌≡◌ {A = ℕ} 0 1 = cc in absurd (omega arith))
same_exactly (negsuc x) (negsuc y) = (λ e. ap negsuc ((equal x y).0 e), λ e. (equal x y).1 (cc))

pub differ_exactly : (a b : Answer ℤ) → (differ a b ≡ true) ↔ (a ≡ b → ⊥)
unfolding differ same_figure
differ_exactly (Value x) (Value y) =
    Iff.trans (not_is (same_figure x y)) (Iff.trans (fails (same_figure x y) (same_exactly x y)) (λ h e. h (cc), λ h e. h (ap Value e)))
differ_exactly (Value x) Absent = (λ e d. omega (arith, ap kind_of d), λ h. refl)
differ_exactly (Value x) NotKnown = (λ e d. omega (arith, ap kind_of d), λ h. refl)
differ_exactly Absent (Value y) = (λ e d. omega (arith, ap kind_of d), λ h. refl)
differ_exactly Absent Absent = (λ e. absurd (false≢true e), λ h. absurd (h refl))
differ_exactly Absent NotKnown = (λ e d. omega (arith, ap kind_of d), λ h. refl)
differ_exactly NotKnown (Value y) = (λ e d. omega (arith, ap kind_of d), λ h. refl)
differ_exactly NotKnown Absent = (λ e d. omega (arith, ap kind_of d), λ h. refl)
differ_exactly NotKnown NotKnown = (λ e. absurd (false≢true e), λ h. absurd (h refl))

-- the two numbers of a row settle the answer
abbrev answer_by : ℕ → ℤ → Answer ℤ
answer_by k x = cond (eqb k 1) (Value x) (cond (eqb k 2) Absent NotKnown)

row_settles : (a : Answer ℤ) → answer_by (kind_of a) (figure_of a) ≡ a
row_settles (Value x) = refl
row_settles Absent = refl
row_settles NotKnown = refl

pub one_answer : (a b : Answer ℤ) → kind_of a ≡ kind_of b → figure_of a ≡ figure_of b → a ≡ b
one_answer a b k x = sym (row_settles a) ∙ (ap (λ n. answer_by n (figure_of a)) k ∙ (ap (answer_by (kind_of b)) x ∙ row_settles b))

-- of two answers that are the same of the three, the code holds the registers of their values against each other
pub by_figures : (a b : Answer ℤ) {x y : ℤ} → SFits w64 x → SFits w64 y → x ≡ figure_of a → y ≡ figure_of b → kind_of a ≡ kind_of b
    → not (eqb (of_z w64 x) (of_z w64 y)) ≡ differ a b
by_figures a b {x} {y} f g p q k = at (eqb (of_z w64 x) (of_z w64 y)) refl
  where
    at : (t : Bool) → eqb (of_z w64 x) (of_z w64 y) ≡ t → not t ≡ differ a b
    at true e =
        let z : x ≡ y = sym (to_z-of_z f) ∙ (ap (to_z w64) ((equal (of_z w64 x) (of_z w64 y)).0 e) ∙ to_z-of_z g) in
        sym ((fails (differ a b) (differ_exactly a b)).1 (λ n. n (one_answer a b k (sym p ∙ (z ∙ q)))))
    at false e = sym ((differ_exactly a b).1 (λ d. (unequal (of_z w64 x) (of_z w64 y)).0 e (ap (of_z w64) (p ∙ (ap figure_of d ∙ sym q)))))

-- ---- a field's answer

module _ (L : ℕ) (b : List ℕ) (f : Field) where
  pub answer_case : {c : Case} → c ≡ case_of f.since false L (version b) → answer_for c (field_value b f) ≡ answer_in L b f
  unfolding answer_in
  answer_case e = ap (λ (c : Case). answer_for c (field_value b f)) e

-- a field of the catalogue that is known and there lies within an accepted table
pub entry_lies : {L : ℕ} {b : List ℕ} {f : Field} → Entry L b f → f.since ≤ L → f.since ≤ version b → Lies b f
entry_lies {L} {b} {f} e =
    subst (λ (g : Field). g.since ≤ L → g.since ≤ version b → Lies b g) (sym e.is) (open_lies L b e.accepted e.number e.inside)

said_case_lem : (c : Case) (x : ℤ) → said_answer (answer_for c x) ≡ said_case c (integer x)
said_case_lem Case·.NotKnown x = refl
said_case_lem Case·.Absent x = refl
said_case_lem Case·.Value x = refl

module _ (L : ℕ) (b : List ℕ) (k : ℕ) where
  pub answer_given : said_answer (answer_in L b (field_of k)) ≡ given L b (Question·.Field k)
  unfolding answer_in given since on_whole value_of
  answer_given = said_case_lem (case_of (field_of k).since false L (version b)) (field_value b (field_of k))

  -- so it is settled, of a table that the level accepts ..
  pub answer_settled : L ≤ newest → judged L b ≡ none → k ≤ 47 → Settled L b (Question·.Field k) (answered (said_answer (answer_in L b (field_of k))))
  answer_settled h e l =
      rw (answer_given, ← ask_accepted L b (Question·.Field k) h (came_since (field_came {k = k} l)).0 ((judged_exactly L b).0 e))
      (settles L b (Question·.Field k))

  settled_given : {s : Said} → Settled L b (Question·.Field k) (answered s) → given L b (Question·.Field k) ≡ s
  unfolding ask
  settled_given {s} x = let e = ((unless_answered _ _ s).0 (settled_is L b (Question·.Field k) (answered s) x)).1 in cc

  -- .. and nothing else is
  pub settled_answer : {a : Answer ℤ} → Settled L b (Question·.Field k) (answered (said_answer a)) → a ≡ answer_in L b (field_of k)
  settled_answer {a} x = once said_answer answer_of answer_back a (answer_in L b (field_of k)) (sym (settled_given x) ∙ sym answer_given)

-- "not known" depends on the level and the field alone, so it is the answer on every table or on none
module _ (L : ℕ) (b c : List ℕ) (k : ℕ) where
  not_known_both : given L b (Question·.Field k) ≡ not_known → given L c (Question·.Field k) ≡ not_known
  unfolding since on_whole
  not_known_both e =
      given_not_known L c (Question·.Field k)
      ((unknown_exactly _ _ _ _).1
      (⊎_elim (λ h. inl h) (λ n. absurd (false≢true n.0)) ((unknown_exactly _ _ _ _).0 (given_unknown L b (Question·.Field k) e))))

  pub unknown_both : {x y : Answer ℤ} → Settled L b (Question·.Field k) (answered (said_answer x)) → Settled L c (Question·.Field k) (answered (said_answer y)) →
      x ≡ NotKnown → y ≡ NotKnown
  unknown_both {x} {y} p q e =
      once said_answer answer_of answer_back y NotKnown
      (sym (settled_given L c k q) ∙ not_known_both (settled_given L b k p ∙ ap said_answer e))

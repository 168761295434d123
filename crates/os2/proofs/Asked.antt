-- The ways to an outcome, as the code takes them: what needs no table, then the table, then the answer.
-- Assumes nothing.
use Prim.Native.Nat.{ℕ}
use mathlib.Core.Path.{◌≡◌, refl, sym, ap, ◌∙◌}
use mathlib.Core.Option.{Option, none}
use mathlib.Core.List.{List}
use borrow.Author.Tests.{lt-ltb, le-ltb}
use lib.Dec.{ltb}
use Rattle.outcomes.specs.Firsts.{when, ◌then◌}
use Rattle.outcomes.specs.Outcomes.{Refusal, bare, refused, answered, unless}
use Rattle.outcomes.proofs.Laws.{then_none, passed, unless_answered, unless_refused}
use Rattle.level.specs.Levels.{newest, number_of, level_of}
use Rattle.level.specs.declared.Level.{Level}
use Rattle.level.specs.declared.LevelAbove.{LevelAbove}
use Rattle.std.specs.Prelude.{Ok, Err}
use Rattle.level.proofs.Laws.{known, refused as level_refused}
use Rattle.os2_acceptance.specs.Acceptance.{judged}
use Rattle.os2_questions.specs.declared.Question.{Question}
use Rattle.os2_questions.specs.Questions.{own_refusal}
use Rattle.os2_answers.specs.Values.{Said}
use Rattle.os2_answers.specs.Asking.{given, before_table, ask}
use Rattle.os2_answers.specs.Reading.{Asked}

-- what is opened at one number is at no other
module _ (o : Option Refusal) (L l : ℕ) (e : answered l ≡ unless o (answered L)) where
  opened_none : o ≡ none
  opened_none = ((unless_answered o (answered L) l).0 (sym e)).0

  opened_same : L ≡ l
  opened_same = let p = ((unless_answered o (answered L) l).0 (sym e)).1 in cc

module _ (L : ℕ) (q : Question) where
  -- a number above 5, and else the question's own refusal
  pub before_above : (r : LevelAbove) → level_of L ≡ Err r → refused 1 none ≡ unless (before_table L q) (answered L)
  unfolding before_table unless when ◌then◌
  before_above r e = rw (lt-ltb newest L (level_refused L r e))

  pub before_known : {l : Level} {o : Option Refusal} → level_of L ≡ Ok l → o ≡ own_refusal q →
      unless o (answered (number_of l)) ≡ unless (before_table L q) (answered L)
  unfolding before_table when ◌then◌
  before_known {l} e d = let k = known L l e in rw (k.1, le-ltb newest L k.0, d)

  module _ (b : List ℕ) where
    -- the first half's refusal is that of both; past it, the second half's verdict is
    pub first_refused : {n : ℕ} {c : Option ℕ} → refused n c ≡ unless (before_table L q) (answered L) →
        refused n c ≡ unless (before_table L q then judged L b) (answered L)
    unfolding unless ◌then◌
    first_refused {n} {c} e = rw ((unless_refused (before_table L q) L n c).0 (sym e))

    pub second : {l : ℕ} → answered l ≡ unless (before_table L q) (answered L) →
        unless (judged l b) (answered l) ≡ unless (before_table L q then judged L b) (answered L)
    unfolding ◌then◌
    second {l} e = rw (← opened_same (before_table L q) L l e, opened_none (before_table L q) L l e)

    -- a refusal of both halves is the outcome
    pub asked_refused : {n : ℕ} {c : Option ℕ} → refused n c ≡ unless (before_table L q then judged L b) (answered L) → refused n c ≡ ask L b q
    unfolding ask
    asked_refused {n} {c} e =
        sym ((unless_refused (before_table L q then judged L b) (given L b q) n c).1 ((unless_refused (before_table L q then judged L b) L n c).0 (sym e)))

    -- past both, the question is in its range, of an accepted table, and the answer is the outcome
    module _ {l : ℕ} (e : answered l ≡ unless (before_table L q then judged L b) (answered L)) where
      pub asked_parts : Asked l b q
      unfolding before_table
      asked_parts =
          let p = (then_none (before_table L q) (judged L b)).0 (opened_none (before_table L q then judged L b) L l e) in
          record {
            in_range = ((passed (ltb newest L) (bare 1) (own_refusal q)).0 p.0).1;
            opened = rw (opened_same (before_table L q then judged L b) L l e) at p.1;
          }

      pub asked_answered : {a : Said} → a ≡ given l b q → answered a ≡ ask L b q
      unfolding ask
      asked_answered {a} d =
          rw (← opened_same (before_table L q then judged L b) L l e) at
          (ap answered d ∙ sym ((unless_answered _ (answered (given l b q)) (given l b q)).1 (opened_none (before_table L q then judged L b) L l e, refl)))

-- What `ask` answers is what document 01 settles, and nothing else is settled: each test of the definition is matched with its proposition.
-- Assumes nothing.
use Prim.Native.Nat.{ℕ, ◌<◌, ◌≤◌}
use mathlib.Core.Path.{◌≡◌, refl, sym, ap, ◌∙◌}
use mathlib.Core.Bool.{Bool, true, false}
use mathlib.Core.Option.{Option, none, some}
use mathlib.Core.List.{List}
use native.Mathlib.Decide.{dec_lt}
use native.Mathlib.Omega.{arith}
use borrow.Author.Tests.{lt-ltb, le-ltb}
use Rattle.outcomes.specs.Firsts.{when, ◌then◌}
use Rattle.outcomes.specs.Outcomes.{Refusal, Outcome, refused, answered, unless}
use Rattle.outcomes.proofs.Tests.{fails}
use Rattle.level.specs.Levels.{newest}
use Rattle.os2_fields.specs.Fields.{raw, version}
use Rattle.os2_style.proofs.Settling.{rights_are, rights_once, sizes_are, sizes_once}
use Rattle.os2_acceptance.specs.Acceptance.{judged}
use Rattle.os2_acceptance.specs.Settled.{Accepted}
use Rattle.os2_acceptance.proofs.Accepting.{judged_exactly, judged_short, judged_broken, judged_ways}
use Rattle.os2_questions.specs.declared.Question.{Question}
use Rattle.os2_questions.specs.declared.Question.TheVariants.{Field, SelectionBit, UnicodeBit, CodePageBit, Rights, StylePosition, OpticalSizes}
use Rattle.os2_questions.specs.Questions.{own_refusal, since}
use Rattle.os2_questions.specs.Cases.{above}
use Rattle.os2_questions.proofs.Cases.{above_exactly, not_above}
use Rattle.os2_questions.proofs.Settling.{own, own_is, came, came_since, unknown_to, later_is, later_exactly}
use Rattle.os2_answers.specs.Values.{Value, rights, sizes, Said}
use Rattle.os2_answers.specs.Asking.{value_of, given, before_table, ask}
use Rattle.os2_answers.specs.Settled.{Says, field_says, selection_says, unicode_says, code_page_says, rights_say, style_says, optical_says}
use Rattle.os2_answers.specs.Settled.{Settled, level_above, own_number, too_short, rule_broken, is_not_known, is_absent, is_value}
use Rattle.os2_answers.specs.Demands.{AnswersSettled}
use Rattle.os2_answers.proofs.Cases.{given_not_known, given_absent, given_value}

-- ---- the values

pub says : (b : List ℕ) (q : Question) → Says b q (value_of b q)
unfolding value_of
says b (Field k) = field_says
says b (SelectionBit n) = selection_says
says b (UnicodeBit n) = unicode_says
says b (CodePageBit n) = code_page_says
says b Rights = rights_say (rights_are (raw b 4))
says b StylePosition = style_says
says b OpticalSizes = optical_says (sizes_are (raw b 46) (raw b 47))

says_once : (b : List ℕ) {q : Question} {v : Value} → Says b q v → v ≡ value_of b q
unfolding value_of
says_once b field_says = refl
says_once b selection_says = refl
says_once b unicode_says = refl
says_once b code_page_says = refl
says_once b (rights_say h) = ap rights (rights_once (raw b 4) h)
says_once b style_says = refl
says_once b (optical_says h) = ap sizes (sizes_once (raw b 46) (raw b 47) h)

-- ---- the outcome

module _ (L : ℕ) (b : List ℕ) (q : Question) where
  pub ask_above : newest < L → ask L b q ≡ refused 1 none
  unfolding ask before_table unless when ◌then◌
  ask_above h = rw (lt-ltb newest L h)

  pub ask_own : L ≤ newest → {r : Refusal} → own_refusal q ≡ some r → ask L b q ≡ refused r.number r.carried
  unfolding ask before_table unless when ◌then◌
  ask_own h e = rw (le-ltb newest L h, e)

  pub ask_judged : L ≤ newest → own_refusal q ≡ none → ask L b q ≡ unless (judged L b) (answered (given L b q))
  unfolding ask before_table when ◌then◌
  ask_judged h e = rw (le-ltb newest L h, e)

  pub ask_accepted : L ≤ newest → own_refusal q ≡ none → Accepted L b → ask L b q ≡ answered (given L b q)
  unfolding unless
  ask_accepted h e a = ask_judged h e ∙ rw ((judged_exactly L b).1 a)

  -- what `ask` answers is settled
  settled : Settled L b q (ask L b q)
  unfolding unless
  settled = level (dec_lt newest L)
    where
      answer : L ≤ newest → (r : own_refusal q ≡ none) → Accepted L b → (s : Bool) → unknown_to L b q ≡ s → (t : Bool) → above (since q) (version b) ≡ t →
          Settled L b q (answered (given L b q))
      answer h r a true e t d = rw (given_not_known L b q e) (is_not_known h (came q r) a ((later_exactly L b q r).0 e))
      answer h r a false e true d =
          rw (given_absent L b q e d) (is_absent h (came q r) a ((fails _ (later_exactly L b q r)).0 e) ((above_exactly (since q) (version b)).0 d))
      answer h r a false e false d =
          rw (given_value L b q e d) (is_value h (came q r) a ((fails _ (later_exactly L b q r)).0 e) ((not_above (since q) (version b)).0 d) (says b q))

      number : L ≤ newest → (o : Option Refusal) → own_refusal q ≡ o → Settled L b q (ask L b q)
      number h none r =
          rw (ask_judged h r)
          (judged_ways L b (λ o. Settled L b q (unless o (answered (given L b q)))) (too_short h (came q r)) (λ k. rule_broken h (came q r))
          (λ a. answer h r a (unknown_to L b q) refl (above (since q) (version b)) refl))
      number h (some r) e = let o = own q r e in rw (ask_own h (e ∙ ap some (sym o.1))) (own_number h o.2)

      level : Dec (newest < L) → Settled L b q (ask L b q)
      level (yes h) = rw (ask_above h) (level_above h)
      level (no h) = number (omega arith) (own_refusal q) refl

-- demands 1 and 2, of ours
pub settles : AnswersSettled ask
settles L b q = settled L b q

-- and nothing else is
pub settled_is : (L : ℕ) (b : List ℕ) (q : Question) (a : Outcome Said) → Settled L b q a → ask L b q ≡ a
unfolding unless
settled_is L b q a (level_above h) = ask_above L b q h
settled_is L b q a (own_number h o) = ask_own L b q h (own_is o)
settled_is L b q a (too_short h c s) = ask_judged L b q h (came_since c).0 ∙ rw (judged_short L b s)
settled_is L b q a (rule_broken {k = k} h c s r) = ask_judged L b q h (came_since c).0 ∙ rw (judged_broken L b k s r)
settled_is L b q a (is_not_known h c k l) = ask_accepted L b q h (came_since c).0 k ∙ ap answered (given_not_known L b q (later_is L b q l).1)
settled_is L b q a (is_absent {p} h c k n m) =
    let i = came_since c in
    let e = (fails _ (later_exactly L b q i.0)).1 n in
    ask_accepted L b q h i.0 k ∙ ap answered (given_absent L b q e ((above_exactly (since q) (version b)).1 (rw i.1 at m)))
settled_is L b q a (is_value {p} {v} h c k n m s) =
    let i = came_since c in
    let e = (fails _ (later_exactly L b q i.0)).1 n in
    ask_accepted L b q h i.0 k
    ∙ (ap answered (given_value L b q e ((not_above (since q) (version b)).1 (rw i.1 at m))) ∙ rw (says_once b s))

-- Counts that are not equal differ; else each character is to be the same.
use Prim.Native.Nat.{ℕ}
use mathlib.Core.Path.{◌≡◌, sym, ◌∙◌}
use mathlib.Core.List.{List}
use lib.ListN.{length}
use Rattle.outcomes.specs.Firsts.{when, first_among}
use Rattle.outcomes.proofs.Laws.{at_first, goes_on, stops, at_last}
use Rattle.name_answers.specs.Forms.{differ_at, differ}
use Rattle.name_answers.proofs.FormLaws.{same_here, differ_here, differ_count, differ_sized}
use Rattle.name_answers.proofs.differ.Goals as goal

-- equally many characters: each is to be the same
sized : (a b : List ℕ) {count own : ℕ} → own ≡ length a → own ≡ count → count ≡ length b → differ a b ≡ first_among (differ_at a b) count
sized a b {count} {own} e f g = let l : length a ≡ length b = sym e ∙ f ∙ g in rw g (differ_sized a b l)

pub returns-then-count : goal.returns-then-count
unfolding when
returns-then-count c = sym (differ_count _ _ (λ e. c.if-count.true (c.count.ensures ∙ e ∙ sym c.count-count.ensures)))

pub loop-i-init : goal.loop-i-init
loop-i-init c = at_first _ _

pub returns-then-code : goal.returns-then-code
unfolding when
returns-then-code c = let other = differ_here _ _ _ (λ e. c.if-code.true (c.code.ensures ∙ e ∙ sym c.code-in-loop-i.ensures)) in
    sym (sized _ _ c.count.ensures c.if-count.false c.count-count.ensures ∙ stops _ c.loop-i.invariant c.loop-i-test.true other)

pub loop-i-preserved : goal.loop-i-preserved
loop-i-preserved c = goes_on _ c.loop-i.invariant c.loop-i-test.true
    ((same_here _ _ _).1 (sym c.code.ensures ∙ c.if-code.false ∙ c.code-in-loop-i.ensures))

pub returns : goal.returns
unfolding when
returns c = sym (sized _ _ c.count.ensures c.if-count.false c.count-count.ensures ∙ at_last _ c.loop-i.invariant c.loop-i-test.false)

-- A string that passes the end starts beyond it or runs over, a key that is not above is equal or below: so each return is the definition's first test that holds.
use Prim.Native.Nat.{ℕ}
use mathlib.Core.Path.{◌≡◌, refl, sym, ◌∙◌}
use mathlib.Core.Logic.{⊎_elim}
use mathlib.Core.Bool.{Bool, false, false≢true}
use mathlib.Core.List.{List}
use Rattle.outcomes.proofs.Laws.{when_none, when_some, here, past}
use Rattle.outcomes.proofs.Tests.{or_true, or_false}
use Rattle.name_tests.specs.Tests.{string_passes, starts_beyond}
use Rattle.name_tests.proofs.Tests.{Held, string_fits, string_held, string_either, equal_not_below}
use Rattle.name.specs.Acceptance.{record_fault}
use Rattle.name.proofs.record_fault.Goals as goal

-- what the tests on the way found of a string
module _ (t : List ℕ) {at at' : ℕ} (e : at' ≡ at) {b : Bool} where
  passes : b ≡ string_passes t at' → b ≡ string_passes t at
  passes f = rw e at f

  beyond : b ≡ starts_beyond t at' → b ≡ starts_beyond t at
  beyond f = rw e at f

  held : b ≡ string_passes t at' → b ≡ false → Held t at
  held f n = (string_held t at).1 ((string_fits t at).0 (sym (passes f) ∙ n))

pub returns-then-starts_beyond : goal.returns-then-starts_beyond
unfolding record_fault
returns-then-starts_beyond c = sym (here _ _ _ (sym (beyond _ c.text_at-at.ensures c.starts_beyond.ensures) ∙ c.if-starts_beyond.true))

pub returns-then-string_passes : goal.returns-then-string_passes
unfolding record_fault
returns-then-string_passes c = let starts = sym (beyond _ c.text_at-at.ensures c.starts_beyond.ensures) ∙ c.if-starts_beyond.false in
    sym (past _ _ _ starts ∙ here _ _ _ (string_either _ _ (sym (passes _ c.text_at-at.ensures c.string_passes.ensures) ∙ c.if-string_passes.true) starts))

pub returns-then-language_refused : goal.returns-then-language_refused
unfolding record_fault
returns-then-language_refused c = let h = held _ c.text_at-at.ensures c.string_passes.ensures c.if-string_passes.false in
    sym (past _ _ _ h.0 ∙ past _ _ _ h.1 ∙ here _ _ _ (sym c.language_refused.ensures ∙ c.if-language_refused.true))

pub returns-then-equals_before : goal.returns-then-equals_before
unfolding record_fault
returns-then-equals_before c = let h = held _ c.text_at-at.ensures c.string_passes.ensures c.if-string_passes.false in
    let equal = sym c.equals_before.ensures ∙ c.if-equals_before.true in
    sym (past _ _ _ h.0 ∙ past _ _ _ h.1 ∙ past _ _ _ (sym c.language_refused.ensures ∙ c.if-language_refused.false) ∙ past _ _ _ (equal_not_below _ _ equal) ∙ (when_some _ _ _).1 (equal, refl))

pub returns-then-not_above : goal.returns-then-not_above
unfolding record_fault
returns-then-not_above c = let h = held _ c.text_at-at.ensures c.string_passes.ensures c.if-string_passes.false in
    let other = sym c.equals_before.ensures ∙ c.if-equals_before.false in
    let below = ⊎_elim (λ e. e) (λ e. absurd (false≢true (sym other ∙ e))) ((or_true _ _).0 (sym c.not_above.ensures ∙ c.if-not_above.true)) in
    sym (past _ _ _ h.0 ∙ past _ _ _ h.1 ∙ past _ _ _ (sym c.language_refused.ensures ∙ c.if-language_refused.false) ∙ here _ _ _ below)

pub returns : goal.returns
unfolding record_fault
returns c = let h = held _ c.text_at-at.ensures c.string_passes.ensures c.if-string_passes.false in
    let neither = (or_false _ _).0 (sym c.not_above.ensures ∙ c.if-not_above.false) in
    sym (past _ _ _ h.0 ∙ past _ _ _ h.1 ∙ past _ _ _ (sym c.language_refused.ensures ∙ c.if-language_refused.false) ∙ past _ _ _ neither.0 ∙ (when_none _ _).1 neither.1)

-- Past the test of the length and that of the count, every character is to be allowed.
use Prim.Native.Nat.{ℕ}
use mathlib.Core.Path.{◌≡◌, refl, sym, ap, ◌∙◌}
use mathlib.Core.Bool.{Bool, false, not}
use mathlib.Core.List.{List}
use lib.ListN.{length}
use Rattle.outcomes.specs.Firsts.{when, first_among}
use Rattle.outcomes.specs.Outcomes.{bare}
use Rattle.outcomes.proofs.Laws.{when_none, when_some, here, past, at_first, goes_on, stops, at_last}
use Rattle.characters.specs.Strings.{characters, char, odd}
use Rattle.charset.specs.Allowed.{allowed}
use Rattle.name_answers.specs.Forms.{other_at, wrong_count, ill_formed}
use Rattle.name_answers.proofs.ill_formed.Goals as goal

-- an even length and 1 to 63 characters: every one is to be allowed
sized : (wide : Bool) (text : List ℕ) {count : ℕ} → odd wide text ≡ false → count ≡ length (characters wide text) → wrong_count count ≡ false
    → ill_formed wide text ≡ first_among (other_at (characters wide text)) count
unfolding ill_formed
sized wide text even e right = rw e (past _ _ _ even ∙ past _ _ _ (rw e at right))

-- the test of a character
seen : (l : List ℕ) (i : ℕ) {code : ℕ} {other : Bool} → code ≡ char l i → other ≡ not (allowed code) → other_at l i ≡ when other (bare 23)
unfolding other_at
seen l i e f = rw (f, e)

pub returns-then-is_odd : goal.returns-then-is_odd
unfolding ill_formed when
returns-then-is_odd c = sym (here _ _ _ (sym c.is_odd.ensures ∙ c.if-is_odd.true))

pub returns-then-wrong_count : goal.returns-then-wrong_count
unfolding ill_formed when
returns-then-wrong_count c =
    let even = sym c.is_odd.ensures ∙ c.if-is_odd.false in
    let counted = c.wrong_count.ensures ∙ ap wrong_count c.count-count.ensures in
    sym (past _ _ _ even ∙ here _ _ _ (sym counted ∙ c.if-wrong_count.true))

pub loop-i-init : goal.loop-i-init
loop-i-init c = at_first _ _

pub returns-then-is_other : goal.returns-then-is_other
unfolding when
returns-then-is_other c =
    let even = sym c.is_odd.ensures ∙ c.if-is_odd.false in
    let right = sym c.wrong_count.ensures ∙ c.if-wrong_count.false in
    let other = seen _ c.loop-i.i c.code.ensures c.is_other.ensures ∙ (when_some _ _ _).1 (c.if-is_other.true, refl) in
    sym (sized _ _ even c.count-count.ensures right ∙ stops _ c.loop-i.invariant c.loop-i-test.true other)

pub loop-i-preserved : goal.loop-i-preserved
loop-i-preserved c = goes_on _ c.loop-i.invariant c.loop-i-test.true (seen _ _ c.code.ensures c.is_other.ensures ∙ (when_none _ _).1 c.if-is_other.false)

pub returns : goal.returns
unfolding when
returns c =
    let even = sym c.is_odd.ensures ∙ c.if-is_odd.false in
    let right = sym c.wrong_count.ensures ∙ c.if-wrong_count.false in
    sym (sized _ _ even c.count-count.ensures right ∙ at_last _ c.loop-i.invariant c.loop-i-test.false)

-- A start that is left behind yields nothing: no number may start there, or no period, no second group or a figure that is too large follows. The one that is
-- answered yields the number.
use Prim.Native.Nat.{ℕ, ◌+◌, ◌≤◌, ◌<◌}
use native.Mathlib.Omega.{arith}
use mathlib.Core.Path.{◌≡◌, sym, ap, ◌∙◌}
use mathlib.Core.Bool.{Bool, false}
use mathlib.Core.Option.{none}
use mathlib.Core.List.{List}
use lib.ListN.{length}
use Rattle.outcomes.specs.Firsts.{when, first_among}
use Rattle.outcomes.specs.Outcomes.{bare, answered, unless, found_or}
use Rattle.outcomes.proofs.Laws.{first_none, first_more, first_stop}
use Rattle.characters.specs.Strings.{characters, odd}
use Rattle.version_text.specs.Versions.{number_at, version_in}
use Rattle.version_text.proofs.Groups.{digit_within, period_within, reading_none, reading_more, reading_end}
use Rattle.version_text.proofs.Starts.{no_start, no_period, no_second, first_large, second_large, yields}
use Rattle.version_text.proofs.version_of.Goals as goal

-- the length is not odd, so the starts are searched, and what is found is answered
searched : (wide : Bool) (text : List ℕ) → odd wide text ≡ false
    → version_in wide text ≡ found_or (bare 25) (first_among (number_at (characters wide text)) (length (characters wide text))) answered
unfolding version_in when unless found_or
searched wide text e = rw e

-- the next turn, where a start yields nothing
skip : (l : List ℕ) {count start : ℕ} → (start ≤ count) × (first_among (number_at l) start ≡ none) → start < count → number_at l start ≡ none
    → (start + 1 ≤ count) × (first_among (number_at l) (start + 1) ≡ none)
skip l inv h e = (omega arith, first_more _ _ inv.1 e)

pub returns-then-is_odd : goal.returns-then-is_odd
unfolding version_in when unless found_or
returns-then-is_odd c = rw (← c.is_odd.ensures, c.if-is_odd.true)

pub starts-init : goal.starts-init
starts-init c = (omega arith, first_none _)

pub starts-preserved-then-not-may_start : goal.starts-preserved-then-not-may_start
starts-preserved-then-not-may_start c =
    skip _ c.starts.invariant c.if-count-next.false (no_start _ _ (sym c.may_start.ensures ∙ c.if-not-may_start.true))

pub loop-string-init : goal.loop-string-init
loop-string-init c = reading_none _ _ (omega (arith, c.count-count.ensures))

pub overflow_add-end : goal.overflow_add-end
overflow_add-end c = omega (arith, digit_within _ _ (sym c.digit_at.ensures ∙ c.loop-string-test.true), c.count-count.ensures)

pub loop-string-smaller : goal.loop-string-smaller
loop-string-smaller c = omega (arith, digit_within _ _ (sym c.digit_at.ensures ∙ c.loop-string-test.true))

pub loop-string-preserved : goal.loop-string-preserved
loop-string-preserved c =
    rw (c.with_digit-major.ensures, c.code.ensures) (reading_more _ _ _ _ (sym c.digit_at.ensures ∙ c.loop-string-test.true) c.loop-string.invariant)

pub starts-preserved-then-code-ne-PERIOD : goal.starts-preserved-then-code-ne-PERIOD
starts-preserved-then-code-ne-PERIOD c =
    let first = reading_end _ _ _ _ (sym c.digit_at.ensures ∙ c.loop-string-test.false) c.loop-string.invariant in
    skip _ c.starts.invariant c.if-count-next.false (no_period _ _ _ _ first (λ q. c.if-code-ne-PERIOD.true (c.code-in-starts.ensures ∙ q)))

pub overflow_add-second : goal.overflow_add-second
overflow_add-second c = omega (arith, period_within _ _ (sym c.code-in-starts.ensures ∙ c.if-code-ne-PERIOD.false), c.count-count.ensures)

pub starts-preserved-then-not-digit_at : goal.starts-preserved-then-not-digit_at
starts-preserved-then-not-digit_at c =
    let first = reading_end _ _ _ _ (sym c.digit_at.ensures ∙ c.loop-string-test.false) c.loop-string.invariant in
    skip _ c.starts.invariant c.if-count-next.false (no_second _ _ _ _ first (sym c.digit_at-in-starts.ensures ∙ c.if-not-digit_at.true))

pub loop-start-init : goal.loop-start-init
loop-start-init c = reading_none _ _ (omega (arith, period_within _ _ (sym c.code-in-starts.ensures ∙ c.if-code-ne-PERIOD.false)))

pub starts-preserved-then-major-ge-LARGE : goal.starts-preserved-then-major-ge-LARGE
starts-preserved-then-major-ge-LARGE c =
    let first = reading_end _ _ _ _ (sym c.digit_at.ensures ∙ c.loop-string-test.false) c.loop-string.invariant in
    skip _ c.starts.invariant c.if-count-next.false (first_large _ _ _ _ first c.if-major-ge-LARGE.true)

pub starts-preserved : goal.starts-preserved
starts-preserved c =
    let first = reading_end _ _ _ _ (sym c.digit_at.ensures ∙ c.loop-string-test.false) c.loop-string.invariant in
    let second = reading_end _ _ _ _ (sym c.digit_at-in-loop-start.ensures ∙ c.if-not-digit_at-2.true) c.loop-start.invariant in
    skip _ c.starts.invariant c.if-count-next.false (second_large _ _ _ _ first _ _ second c.if-minor-ge-LARGE.true)

pub overflow_add-stop : goal.overflow_add-stop
overflow_add-stop c = omega (arith, digit_within _ _ (sym c.digit_at-in-loop-start.ensures ∙ c.if-not-digit_at-2.false), c.count-count.ensures)

pub loop-start-smaller : goal.loop-start-smaller
loop-start-smaller c = omega (arith, digit_within _ _ (sym c.digit_at-in-loop-start.ensures ∙ c.if-not-digit_at-2.false))

pub loop-start-preserved : goal.loop-start-preserved
loop-start-preserved c =
    rw (c.with_digit-minor.ensures, c.code-in-loop-start.ensures)
    (reading_more _ _ _ _ (sym c.digit_at-in-loop-start.ensures ∙ c.if-not-digit_at-2.false) c.loop-start.invariant)

pub returns-then-count-next : goal.returns-then-count-next
unfolding found_or
returns-then-count-next c =
    let text = c.args.string.text.now in
    let l = characters c.args.string.wide text in
    let e : length l ≡ c.starts.next = omega (arith, c.count-count.ensures) in
    let even = searched c.args.string.wide text (sym c.is_odd.ensures ∙ c.if-is_odd.false) in
    sym (even ∙ ap (λ o. found_or (bare 25) o answered) (ap (first_among (number_at l)) e ∙ c.starts.invariant.1))

pub returns-else-minor-ge-LARGE : goal.returns-else-minor-ge-LARGE
unfolding found_or
returns-else-minor-ge-LARGE c =
    let text = c.args.string.text.now in
    let l = characters c.args.string.wide text in
    let first = reading_end _ _ _ _ (sym c.digit_at.ensures ∙ c.loop-string-test.false) c.loop-string.invariant in
    let second = reading_end _ _ _ _ (sym c.digit_at-in-loop-start.ensures ∙ c.if-not-digit_at-2.true) c.loop-start.invariant in
    let found =
    yields l _ _ _ first _ _ second
    (sym c.may_start.ensures ∙ c.if-not-may_start.false)
    (sym c.code-in-starts.ensures ∙ c.if-code-ne-PERIOD.false)
    (sym c.digit_at-in-starts.ensures ∙ c.if-not-digit_at.false)
    c.if-major-ge-LARGE.false
    c.if-minor-ge-LARGE.false in
    let even = searched c.args.string.wide text (sym c.is_odd.ensures ∙ c.if-is_odd.false) in
    let within : c.starts.next < length l = omega (arith, c.count-count.ensures) in
    sym (even ∙ ap (λ o. found_or (bare 25) o answered) (first_stop _ _ _ within c.starts.invariant.1 found))

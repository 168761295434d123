use Rattle.std.proofs.Common.{rules, ◌≡◌, true, false, length, get_or, sym, ap, ◌∙◌, arith}
use Rattle.characters.specs.Digits.{digit}
use Rattle.level.proofs.Words.{is_empty, not_empty, step_other, step_digit, step_end}
use Rattle.level.proofs.level_in.Goals as goal

pub returns-then-is_empty : goal.returns-then-is_empty
returns-then-is_empty c = let e : length c.args.word.now ≡ 0 = search rules in is_empty _ e

pub loop-byte-init : goal.loop-byte-init
loop-byte-init c = let e : length c.args.word.now ≡ 0 → ⊥ = search rules in (omega arith, sym (not_empty _ e))

pub returns-then-not-is_digit : goal.returns-then-not-is_digit
returns-then-not-is_digit c = let l = c.loop-byte in
    let e : digit (get_or c.args.word.now l.byte-index 0) ≡ false =
    sym (c.is_digit.ensures ∙ ap digit c.from-code.ensures) ∙ c.if-not-is_digit.true in
    sym (step_other c.args.word.now l.n l.byte-index c.loop-byte-test.true e) ∙ l.invariant.1

pub with_digit-n-requires : goal.with_digit-n-requires
with_digit-n-requires c = (sym c.is_digit.ensures ∙ c.if-not-is_digit.false, c.loop-byte.invariant.0, omega arith)

pub loop-byte-preserved : goal.loop-byte-preserved
loop-byte-preserved c = let l = c.loop-byte in
    let e : digit (get_or c.args.word.now l.byte-index 0) ≡ true =
    sym (c.is_digit.ensures ∙ ap digit c.from-code.ensures) ∙ c.if-not-is_digit.false in
    let step = step_digit c.args.word.now l.n l.byte-index c.loop-byte-test.true e in
    (omega (arith, c.with_digit-n.ensures), rw (c.with_digit-n.ensures, c.from-code.ensures) (sym step ∙ l.invariant.1))

pub returns : goal.returns
returns c = let l = c.loop-byte in sym (step_end c.args.word.now l.n l.byte-index (omega arith) l.invariant.0) ∙ l.invariant.1

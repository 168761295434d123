-- A negative number stands in a signed field of two bytes, so 65536 more is its code; any other is its own.
use mathlib.Core.Path.{◌≡◌, ap, ◌∙◌}
use lib.IntN.{pos, ◌+ℤ◌, nat_abs}
use Rattle.os2_store.specs.Writing.{code_of}
use Rattle.os2_store.proofs.Signs.{kept, small_fits, code_32, code_negative, code_positive}
use Rattle.os2_store.proofs.code.Goals as goal

pub overflow_add-result : goal.overflow_add-result
overflow_add-result c =
    let more : c.args.x +ℤ pos 65536 ≡ pos (code_of c.args.f c.args.x) = code_negative _ c.requires.0 _ c.requires.1 (rw (kept _ c.ranges.x) at c.if-x-lt0.true) in
    rw (kept _ c.ranges.x, more) (small_fits _ (code_32 _ c.requires.0 _ c.requires.1))

pub overflow_cast-result : goal.overflow_cast-result
overflow_cast-result c =
    let more : c.args.x +ℤ pos 65536 ≡ pos (code_of c.args.f c.args.x) = code_negative _ c.requires.0 _ c.requires.1 (rw (kept _ c.ranges.x) at c.if-x-lt0.true) in
    rw (kept _ c.ranges.x, more, kept _ (small_fits _ (code_32 _ c.requires.0 _ c.requires.1)))
    (tt, record { fits = code_32 _ c.requires.0 _ c.requires.1 })

pub returns-then-x-lt0 : goal.returns-then-x-lt0
returns-then-x-lt0 c =
    let more : c.args.x +ℤ pos 65536 ≡ pos (code_of c.args.f c.args.x) = code_negative _ c.requires.0 _ c.requires.1 (rw (kept _ c.ranges.x) at c.if-x-lt0.true) in
    rw (kept _ c.ranges.x, more, kept _ (small_fits _ (code_32 _ c.requires.0 _ c.requires.1)))

pub overflow_cast-result-2 : goal.overflow_cast-result-2
overflow_cast-result-2 c =
    let own : c.args.x ≡ pos (code_of c.args.f c.args.x) = code_positive _ c.requires.0 _ c.requires.1 (rw (kept _ c.ranges.x) at c.if-x-lt0.false) in
    rw (kept _ c.ranges.x, own) (tt, record { fits = code_32 _ c.requires.0 _ c.requires.1 })

pub returns : goal.returns
returns c =
    let own : c.args.x ≡ pos (code_of c.args.f c.args.x) = code_positive _ c.requires.0 _ c.requires.1 (rw (kept _ c.ranges.x) at c.if-x-lt0.false) in
    ap nat_abs (kept _ c.ranges.x ∙ own)

-- A number that fits an unsigned field of two bytes is its own code.
use Rattle.os2_store.proofs.Signs.{kept}
use Rattle.os2_writer.proofs.Signs.{word_small}
use mathlib.Core.Path.{◌≡◌, ap, ◌∙◌}
use lib.IntN.{pos, nat_abs}
use native.Mathlib.Omega.{arith}
use mir.Syntax.{w64}
use mir.Val.{SFits, to_z, of_z}
use Rattle.os2_store.specs.Writing.{number_for, code_for}
use Rattle.os2_store.proofs.Codes.{code_plain}
use Rattle.os2_writer.proofs.word.Goals as goal

pub overflow_cast-result : goal.overflow_cast-result
overflow_cast-result c =
    let fit : SFits w64 (number_for c.args.numbers.now c.args.k) = record { sfits = omega arith } in
    let own : to_z w64 (of_z w64 (number_for c.args.numbers.now c.args.k)) ≡ pos (code_for c.args.numbers.now c.args.k) =
    kept _ fit ∙ code_plain _ _ c.requires.plain c.requires.fit in
    rw own (tt, record { fits = word_small _ _ c.requires.two c.requires.fit })

pub returns : goal.returns
returns c =
    let fit : SFits w64 (number_for c.args.numbers.now c.args.k) = record { sfits = omega arith } in
    let own : to_z w64 (of_z w64 (number_for c.args.numbers.now c.args.k)) ≡ pos (code_for c.args.numbers.now c.args.k) =
    kept _ fit ∙ code_plain _ _ c.requires.plain c.requires.fit in
    ap nat_abs own

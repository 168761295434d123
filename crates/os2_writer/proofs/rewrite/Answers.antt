-- A table that level 5 accepts is read and written; the law on rewriting says what the writer then gives.
use mathlib.Core.Path.{sym, ap, ◌∙◌}
use native.Mathlib.Omega.{arith}
use Rattle.std.specs.Prelude.{Err}
use Rattle.bigendian.specs.Numbers.{Bytes}
use Rattle.std.proofs.lemmas.Result.{err_from_is_err_and}
use Rattle.os2_writer.specs.Rewriting.{side_with}
use Rattle.os2_writer.specs.Replies.{said_rewritten, side_of}
use Rattle.os2_writer.proofs.Rewriting.{unread, rewrote}
use Rattle.os2_writer.proofs.rewrite.Goals as goal

pub returns-in_err-judge : goal.returns-in_err-judge
returns-in_err-judge c =
    let p = err_from_is_err_and c.from_residual.result c.from_residual.ensures.1 in
    let is = p.1 ∙ ap Err p.2 in
    let u = unread _ _ _ c.in_err-judge.ensures in
    (ap said_rewritten is ∙ u.0, u.1, ap side_of is ∙ ap side_with c.in_err-judge.ensures)

-- what the writer gives for the numbers read, and that the writer says it
pub returns-in_err-size : goal.returns-in_err-size
returns-in_err-size c =
    let bytes : Bytes c.args.table.now = λ i. omega (arith, c.type_inv.table i) in
    let r = rewrote c.args.table.now c.args.room.now (sym c.in_ok-judge.ensures) bytes c.read.result c.read.ensures in
    let p = err_from_is_err_and c.from_residual-in_err-size.result c.from_residual-in_err-size.ensures.1 in
    let is = p.1 ∙ ap Err p.2 in
    (ap said_rewritten is ∙ c.in_err-size.ensures.0 ∙ r.0, c.write.ensures.1 ∙ r.1, ap side_of is ∙ ap side_with c.in_ok-judge.ensures)

pub returns : goal.returns
returns c =
    let bytes : Bytes c.args.table.now = λ i. omega (arith, c.type_inv.table i) in
    let r = rewrote c.args.table.now c.args.room.now (sym c.in_ok-judge.ensures) bytes c.read.result c.read.ensures in
    (c.in_ok-size.ensures.0 ∙ r.0, c.write.ensures.1 ∙ r.1, ap side_with c.in_ok-judge.ensures)

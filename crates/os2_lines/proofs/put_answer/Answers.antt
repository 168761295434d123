-- Each arm is the case that `case_of` finds for the line's question.
use Rattle.std.proofs.Common.{◌++◌, ap, sym, ◌∙◌, arith}
use Rattle.os2_acceptance.proofs.Accepting.{open_two}
use Rattle.os2_answers.proofs.Cases.{given_case}
use Rattle.os2_lines.specs.Listings.{answer_text}
use Rattle.os2_lines.proofs.put_answer.Goals as goal

pub case_of-requires : goal.case_of-requires
case_of-requires c = open_two _ _ c.args.table.now.accepted

pub put_value-requires : goal.put_value-requires
put_value-requires c =
    (omega arith, record { level = _; accepted = c.args.table.now.accepted; range = c.requires.1; case = sym (rw (c.since.ensures, c.is_whole.ensures) at c.in-Value.ensures) })

pub returns-in-NotKnown-clause-holds : goal.returns-in-NotKnown-clause-holds
returns-in-NotKnown-clause-holds c =
    c.put.ensures.holds ∙ ap (λ a. c.args.line.now ++ answer_text c.args.table.now.bytes.now a) (given_case _ _ _ (rw (c.since.ensures, c.is_whole.ensures) at c.in-NotKnown.ensures))

pub returns-in-Absent-clause-holds : goal.returns-in-Absent-clause-holds
returns-in-Absent-clause-holds c =
    c.put-in-Absent.ensures.holds ∙ ap (λ a. c.args.line.now ++ answer_text c.args.table.now.bytes.now a) (given_case _ _ _ (rw (c.since.ensures, c.is_whole.ensures) at c.in-Absent.ensures))

pub returns-in-Value-clause-holds : goal.returns-in-Value-clause-holds
returns-in-Value-clause-holds c =
    c.put_value.ensures.holds ∙ ap (λ a. c.args.line.now ++ answer_text c.args.table.now.bytes.now a) (given_case _ _ _ (rw (c.since.ensures, c.is_whole.ensures) at c.in-Value.ensures))

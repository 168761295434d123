-- Each arm is the definition at its case.
use mathlib.Core.Path.{sym, ap, ◌∙◌}
use mir.Facts.{to_z-of_z}
use mir.Syntax.{w64}
use Rattle.os2_compare.specs.Differences.{figure_of}
use borrow.Author.Rules.{rules}
use Rattle.os2_compare.proofs.figure.Goals as goal

pub returns-in-Value : goal.returns-in-Value
returns-in-Value c = to_z-of_z {w = w64} (search rules) ∙ sym (ap figure_of c.in-Value.is)

pub returns-in-Absent : goal.returns-in-Absent
returns-in-Absent c = sym (ap figure_of c.in-Absent.is)

pub returns-in-NotKnown : goal.returns-in-NotKnown
returns-in-NotKnown c = sym (ap figure_of c.in-NotKnown.is)

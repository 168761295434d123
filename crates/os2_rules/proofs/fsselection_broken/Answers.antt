-- The first test is one that rule 5 is not broken at; the others are the rules' own.
use Rattle.os2_rules.proofs.Laws.{plain_selection}
use Rattle.os2_rules.proofs.fsselection_broken.Goals as goal

pub returns-then-fsselection-lt128 : goal.returns-then-fsselection-lt128
returns-then-fsselection-lt128 c = rw (plain_selection _ _ c.if-fsselection-lt128.true) c.regular_broken.ensures

pub returns-then-selection_broken : goal.returns-then-selection_broken
returns-then-selection_broken c = simp (← c.selection_broken.ensures, c.if-selection_broken.true)

pub returns : goal.returns
returns c = simp (← c.selection_broken.ensures, c.if-selection_broken.false) c.regular_broken-2.ensures

-- The first test is one that neither rule is broken at; the others are the rules' own.
use mathlib.Core.Path.{sym}
use Rattle.os2_rules.proofs.Laws.{plain_type}
use Rattle.os2_rules.proofs.fstype_broken.Goals as goal

pub returns-then-fstype-eq0 : goal.returns-then-fstype-eq0
returns-then-fstype-eq0 c = rw c.if-fstype-eq0.true (sym (plain_type _))

pub returns-then-type_broken : goal.returns-then-type_broken
returns-then-type_broken c = simp (← c.type_broken.ensures, c.if-type_broken.true)

pub returns : goal.returns
returns c = simp (← c.type_broken.ensures, c.if-type_broken.false) c.rights_broken.ensures

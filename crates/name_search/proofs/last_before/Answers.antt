-- Each way is the definition at its case.
use Rattle.outcomes.proofs.Tests.{below, not_below}
use Rattle.name_search.specs.Seeking.{last_before}
use Rattle.name_search.proofs.last_before.Goals as goal

pub returns-then-key-gt65535 : goal.returns-then-key-gt65535
unfolding last_before
returns-then-key-gt65535 c = rw ((below 65535 _).1 c.if-key-gt65535.true)

pub returns-then-key-gt65535-2 : goal.returns-then-key-gt65535-2
unfolding last_before
returns-then-key-gt65535-2 c = rw ((not_below 65535 _).1 c.if-key-gt65535.false, (below 65535 _).1 c.if-key-gt65535-2.true)

pub returns-then-key-gt65535-3 : goal.returns-then-key-gt65535-3
unfolding last_before
returns-then-key-gt65535-3 c =
    rw ((not_below 65535 _).1 c.if-key-gt65535.false, (not_below 65535 _).1 c.if-key-gt65535-2.false, (below 65535 _).1 c.if-key-gt65535-3.true)

pub returns : goal.returns
unfolding last_before
returns c =
    rw ((not_below 65535 _).1 c.if-key-gt65535.false, (not_below 65535 _).1 c.if-key-gt65535-2.false, (not_below 65535 _).1 c.if-key-gt65535-3.false)

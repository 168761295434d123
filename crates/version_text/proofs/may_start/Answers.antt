-- The first place follows none; at a later one the two characters are those of the definition.
use Rattle.version_text.specs.Versions.{may_start}
use Rattle.version_text.proofs.Starts.{may_start_later}
use Rattle.version_text.proofs.may_start.Goals as goal

pub returns-then-at-eq0 : goal.returns-then-at-eq0
unfolding may_start
returns-then-at-eq0 c = rw c.if-at-eq0.true c.digit_at.ensures

pub returns-then-digit_at : goal.returns-then-digit_at
returns-then-digit_at c = rw (may_start_later _ _ c.if-at-eq0.false, ← c.digit_at-2.ensures, c.if-digit_at.true)

pub returns : goal.returns
returns c = rw (may_start_later _ _ c.if-at-eq0.false, ← c.digit_at-2.ensures, c.if-digit_at.false) c.digit_at-3.ensures

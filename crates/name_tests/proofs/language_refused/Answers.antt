-- The rule is applied to the numbers that were read.
use mathlib.Core.Path.{ap}
use Rattle.name_tests.specs.Tests.{is_language_refused}
use Rattle.name_tests.proofs.language_refused.Goals as goal

pub returns : goal.returns
unfolding is_language_refused
returns c = let e = c.record-here.ensures in
    rw (← c.format_number.ensures, ← c.tag_count.ensures, ← ap (λ r. r.platform) e, ← ap (λ r. r.language) e) c.forbidden.ensures

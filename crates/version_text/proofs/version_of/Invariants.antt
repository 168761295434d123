-- Each loop over a digit group keeps `Reading`, the loop over starts that no start before has yielded a number; a start left behind yields none by the
-- test that failed, and the one found is the first.
use Prim.Native.Nat.{◌≤◌, ◌-◌}
use mathlib.Core.Path.{◌≡◌}
use mathlib.Core.Option.{none}
use lib.ListN.{length}
use Rattle.outcomes.specs.Firsts.{first_among}
use Rattle.characters.specs.Strings.{characters}
use Rattle.version_text.specs.Versions.{number_at}
use Rattle.version_text.proofs.Groups.{Reading}
use Rattle.version_text.proofs.version_of.Given as goal

abbrev pub invariant-loop-string : goal.invariant-loop-string
invariant-loop-string l = Reading (characters l.string.wide l.string.text.now) l.start l.end l.major

abbrev pub decreases-loop-string : goal.decreases-loop-string
decreases-loop-string l = length (characters l.string.wide l.string.text.now) - l.end

abbrev pub invariant-loop-start : goal.invariant-loop-start
invariant-loop-start l = Reading (characters l.string.wide l.string.text.now) l.second l.stop l.minor

abbrev pub decreases-loop-start : goal.decreases-loop-start
decreases-loop-start l = length (characters l.string.wide l.string.text.now) - l.stop

abbrev pub invariant-starts : goal.invariant-starts
invariant-starts l = (l.next ≤ l.count) × (first_among (number_at (characters l.string.wide l.string.text.now)) l.next ≡ none)

abbrev pub decreases-starts : goal.decreases-starts
decreases-starts l = l.count - l.next

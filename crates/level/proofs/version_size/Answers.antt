-- Each return is the piece of the definition that the tests before it pick.
use Rattle.level.specs.Sizes.{table_size}
use Rattle.level.proofs.Laws.{decided}
use Rattle.level.proofs.version_size.Goals as goal

pub returns-then-version-lt1 : goal.returns-then-version-lt1
unfolding table_size
returns-then-version-lt1 c = search decided

pub returns-then-version-lt2 : goal.returns-then-version-lt2
unfolding table_size
returns-then-version-lt2 c = search decided

pub returns-then-version-lt5 : goal.returns-then-version-lt5
unfolding table_size
returns-then-version-lt5 c = search decided

pub returns : goal.returns
unfolding table_size
returns c = search decided

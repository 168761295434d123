-- The worked examples, computed from the definition, and what the code's two answers say.
-- Assumes nothing.
use Prim.Native.Nat.{ℕ}
use mathlib.Core.Path.{◌≡◌, refl}
use mathlib.Core.Option.{none}
use Rattle.outcomes.specs.Firsts.{when, ◌then◌, first_among}
use Rattle.outcomes.specs.Outcomes.{refused, answered, unless, found_or}
use Rattle.characters.specs.Digits.{digit}
use Rattle.characters.specs.Strings.{char, odd}
use Rattle.version_text.specs.Versions.{period, digits, group_end, figure, group_figure, small, may_start, is_number, number_at, version_in, said}
use Rattle.std.specs.Prelude.{Some, None}
use Rattle.version_text.specs.Examples.{ExamplesHold}

pub examples_hold : ExamplesHold
unfolding version_in found_or odd unless when ◌then◌ first_among number_at is_number may_start small group_figure figure group_end digits period digit char
examples_hold = record { narrow = refl; wide = refl }

pub number_said : (a b : ℕ) → said (Some (record { major = a; minor = b })) ≡ answered (record { major = a; minor = b })
unfolding found_or
number_said a b = refl

pub no_number_said : said None ≡ refused 25 none
unfolding found_or
no_number_said = refl

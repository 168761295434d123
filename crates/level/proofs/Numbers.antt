-- The levels of the code, each with its number, refusal 1, and what a word gives, written out: by computing.
-- Assumes nothing.
use mathlib.Core.Path.{◌≡◌, refl}
use mathlib.Core.Option.{none, some}
use mathlib.Core.List.{[], ◌∷◌, map}
use Rattle.outcomes.specs.Outcomes.{refused, answered, option_of}
use Rattle.outcomes.specs.Firsts.{when}
use Rattle.characters.specs.Texts.{codes}
use Rattle.characters.specs.Digits.{digit, all_digits}
use Rattle.level.specs.declared.Level.TheVariants.{Oldest, One, Two, Three, Four, Newest}
use Rattle.std.specs.Prelude.{ℕ, Ok, Err, Some, None}
use Rattle.level.specs.Levels.{number_of, said}
use Rattle.level.specs.Words.{level_in}

pub numbers : map number_of (Oldest ∷ One ∷ Two ∷ Three ∷ Four ∷ Newest ∷ []) ≡ 0 ∷ 1 ∷ 2 ∷ 3 ∷ 4 ∷ 5 ∷ []
numbers = refl

pub answers : map said (Ok Oldest ∷ Ok One ∷ Ok Two ∷ Ok Three ∷ Ok Four ∷ Ok Newest ∷ Err record {} ∷ [])
    ≡ answered 0 ∷ answered 1 ∷ answered 2 ∷ answered 3 ∷ answered 4 ∷ answered 5 ∷ refused 1 none ∷ []
answers = refl

pub words : map (option_of {A = ℕ}) (Some 4 ∷ Some 6 ∷ None ∷ []) ≡ some 4 ∷ some 6 ∷ none ∷ []
words = refl

pub words_give :
    map level_in (codes "" ∷ codes "0" ∷ codes "5" ∷ codes "6" ∷ codes "003" ∷ codes "12" ∷ codes "-1" ∷ codes "4x" ∷ [])
    ≡ none ∷ some 0 ∷ some 5 ∷ some 6 ∷ some 3 ∷ some 6 ∷ none ∷ none ∷ []
unfolding level_in when all_digits digit
words_give = refl

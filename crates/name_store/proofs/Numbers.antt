-- The refusals of the writer, each with its number and what it carries, and what is said of them: by computing.
-- Assumes nothing.
use mathlib.Core.Path.{◌≡◌, refl}
use mathlib.Core.Option.{none, some}
use mathlib.Core.List.{List, [], ◌∷◌, map}
use Rattle.std.specs.Prelude.{Ok, Err}
use Rattle.outcomes.specs.Outcomes.{refused, answered}
use Rattle.name_store.specs.declared.WriteRefusal.{WriteRefusal}
use Rattle.name_store.specs.declared.WriteRefusal.TheVariants.{TooMany, PastPool, LanguageRefused, KeyBelow, KeyEqual, TooFar, NoRoom}
use Rattle.name_store.specs.Replies.{said_refusal, said_written}

abbrev refusals : List WriteRefusal
refusals = TooMany ∷ PastPool 21 ∷ LanguageRefused 22 ∷ KeyBelow 23 ∷ KeyEqual 24 ∷ TooFar 25 ∷ NoRoom ∷ []

pub numbers : map (λ r. (said_refusal r).number) refusals ≡ 30 ∷ 31 ∷ 18 ∷ 17 ∷ 19 ∷ 32 ∷ 33 ∷ []
numbers = refl

pub carries : map (λ r. (said_refusal r).carried) refusals ≡ none ∷ some 21 ∷ some 22 ∷ some 23 ∷ some 24 ∷ some 25 ∷ none ∷ []
carries = refl

pub answers_say : map said_written (Ok 48 ∷ Err (TooFar 2) ∷ []) ≡ answered 48 ∷ refused 32 (some 2) ∷ []
answers_say = refl

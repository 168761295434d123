-- The refusals of the code, each with its number and what it carries, written out as document 01's table has them, and what came of writing and rewriting:
-- by computing.
-- Assumes nothing.
use mathlib.Core.Path.{◌≡◌, refl}
use mathlib.Core.Option.{none, some}
use mathlib.Core.List.{List, [], ◌∷◌, map}
use Rattle.outcomes.specs.Outcomes.{Refusal, refused, answered}
use Prim.Native.Nat.{ℕ}
use Rattle.std.specs.Prelude.{Result, Ok, Err}
use Rattle.os2_rules.specs.declared.BrokenRule.TheVariants.{Regular}
use Rattle.os2_acceptance.specs.declared.Refusal.TheVariants as Reader·
use Rattle.os2_writer.specs.declared.RewriteRefusal.{RewriteRefusal}
use Rattle.os2_writer.specs.declared.RewriteRefusal.TheVariants.{Unread, Unwritten}
use Rattle.os2_writer.specs.declared.WriteRefusal.{WriteRefusal}
use Rattle.os2_writer.specs.declared.WriteRefusal.TheVariants.{NoVersion, NoRoom, DoesNotFit, RuleBroken}
use Rattle.os2_writer.specs.Rewriting.{reader, writer, side_with}
use Rattle.os2_writer.specs.Replies.{said_refusal, said_written, said_rewritten, side_of}

abbrev refusals : List WriteRefusal
refusals =
    NoVersion ∷ NoRoom ∷ DoesNotFit 46 ∷ RuleBroken Regular ∷ []

pub numbers : map (λ r. (said_refusal r).number) refusals ≡ 4 ∷ 5 ∷ 8 ∷ 3 ∷ []
numbers = refl

pub carries : map (λ r. (said_refusal r).carried) refusals ≡ none ∷ none ∷ some 46 ∷ some 6 ∷ []
carries = refl

pub written_says : map said_written (Ok 78 ∷ Err (DoesNotFit 46) ∷ []) ≡ answered 78 ∷ refused 8 (some 46) ∷ []
written_says = refl

abbrev rewritings : List (Result ℕ RewriteRefusal)
rewritings =
    Ok 78 ∷ Err (Unread Reader·.TooShort) ∷ Err (Unread (Reader·.RuleBroken Regular)) ∷ Err (Unwritten NoVersion) ∷ Err (Unwritten NoRoom) ∷ []

pub rewritten_says : map said_rewritten rewritings ≡ answered 78 ∷ refused 2 none ∷ refused 3 (some 6) ∷ refused 4 none ∷ refused 5 none ∷ []
rewritten_says = refl

pub rewritten_sides : map side_of rewritings ≡ writer ∷ reader ∷ reader ∷ writer ∷ writer ∷ []
rewritten_sides = refl

pub sides : (r : Refusal) → map side_with (some r ∷ none ∷ []) ≡ reader ∷ writer ∷ []
sides r = refl

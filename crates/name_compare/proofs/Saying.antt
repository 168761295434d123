-- The words settle what a comparison answers: two answers that say the same are the same, since the `said` definition has an inverse.
-- Assumes nothing.
use Prim.Native.Nat.{ℕ}
use mathlib.Core.Path.{◌≡◌, refl, sym, ap, ◌∙◌}
use mathlib.Core.Bool.{cond}
use mathlib.Core.Option.{Option, none, some}
use lib.Dec.{eqb}
use Rattle.name.specs.declared.Refusal as names
use Rattle.name.specs.declared.Refusal.TheVariants.{TooShort, UnknownFormat, RecordsPastEnd, TagsPastEnd, StorageMisplaced}
use Rattle.name.specs.declared.Refusal.TheVariants.{StringBeyond, TagString, KeyBelow, LanguageRefused, KeyEqual, StringRunsOver}
use Rattle.name.specs.Refusals as refusals
use Rattle.std.specs.Prelude.{Result, Ok, Err}
use Rattle.comparing.specs.Comparisons as side
use Rattle.comparing.specs.Comparisons.{Comparison, listed, refused}
use Rattle.name_compare.specs.declared.Refusal.{Refusal}
use Rattle.name_compare.specs.declared.Refusal.TheVariants.{Left, Right, TooManyDifferences}
use Rattle.name_compare.specs.Comparisons.{said_compared}

-- a table's refusal from its number and what it carries
abbrev placed : ℕ → ℕ → names.Refusal
placed n k =
    cond (eqb n 15) (StringBeyond k) (cond (eqb n 16) (TagString k) (cond (eqb n 17) (KeyBelow k)
    (cond (eqb n 18) (LanguageRefused k) (cond (eqb n 19) (KeyEqual k) (StringRunsOver k)))))

abbrev why_of : ℕ → Option ℕ → names.Refusal
why_of n (some k) = placed n k
why_of n none = cond (eqb n 10) TooShort (cond (eqb n 11) UnknownFormat (cond (eqb n 12) RecordsPastEnd (cond (eqb n 13) TagsPastEnd StorageMisplaced)))

why_back : (r : names.Refusal) → why_of (refusals.said_refusal r).number (refusals.said_refusal r).carried ≡ r
why_back TooShort = refl
why_back UnknownFormat = refl
why_back RecordsPastEnd = refl
why_back TagsPastEnd = refl
why_back StorageMisplaced = refl
why_back (StringBeyond k) = refl
why_back (TagString k) = refl
why_back (KeyBelow k) = refl
why_back (LanguageRefused k) = refl
why_back (KeyEqual k) = refl
why_back (StringRunsOver k) = refl

pub compared_once : (r s : Result ℕ Refusal) → said_compared r ≡ said_compared s → r ≡ s
compared_once r s e = sym (back r) ∙ (ap hear e ∙ back s)
  where
    hear : Comparison → Result ℕ Refusal
    hear (listed n) = Ok n
    hear (refused side.Neither r) = Err TooManyDifferences
    hear (refused side.Left r) = Err (Left (why_of r.number r.carried))
    hear (refused side.Right r) = Err (Right (why_of r.number r.carried))

    back : (r : Result ℕ Refusal) → hear (said_compared r) ≡ r
    back (Ok n) = refl
    back (Err (Left r)) = ap (λ x. Err (Left x)) (why_back r)
    back (Err (Right r)) = ap (λ x. Err (Right x)) (why_back r)
    back (Err TooManyDifferences) = refl

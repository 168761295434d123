-- The words settle the refusal: two refusals that say the same are the same. Each `said` definition has an inverse.
-- Assumes nothing.
use Prim.Native.Nat.{ℕ}
use mathlib.Core.Path.{◌≡◌, refl, sym, ap, ◌∙◌}
use mathlib.Core.Bool.{cond}
use mathlib.Core.Option.{Option, none, some}
use mathlib.Core.List.{[], ◌∷◌}
use lib.Dec.{eqb}
use lib.ListN.{get_or}
use Rattle.os2_rules.specs.Tests.{rule_number}
use Rattle.outcomes.specs.Outcomes.{Outcome, refused, answered, unless}
use Rattle.os2_acceptance.specs.declared.Refusal.{Refusal as Why}
use Rattle.os2_acceptance.specs.declared.Refusal.TheVariants.{LevelAbove, TooShort, RuleBroken, NoField, NoBit}
use Rattle.std.specs.Prelude.{Result, Ok, Err}
use Rattle.os2_rules.specs.declared.BrokenRule.{BrokenRule}
use Rattle.os2_rules.specs.declared.BrokenRule.TheVariants.{Weight, Width, TypeBits, Rights, Selection, Regular, Sizes}
use Rattle.os2_acceptance.specs.Replies.{said_refusal, said_check}

-- what has a left inverse tells its arguments apart
pub once : {A B : Type 0} (say : A → B) (hear : B → A) → ((a : A) → hear (say a) ≡ a) → (a c : A) → say a ≡ say c → a ≡ c
once say hear h a c e = sym (h a) ∙ (ap hear e ∙ h c)

abbrev rule_of : Option ℕ → BrokenRule
rule_of none = Weight
rule_of (some k) = get_or (Weight ∷ Weight ∷ Width ∷ TypeBits ∷ Rights ∷ Selection ∷ Regular ∷ Sizes ∷ []) k Weight

abbrev pub why_of : ℕ → Option ℕ → Why
why_of n c = cond (eqb n 1) LevelAbove (cond (eqb n 2) TooShort (cond (eqb n 3) (RuleBroken (rule_of c)) (cond (eqb n 6) NoField NoBit)))

rule_back : (r : BrokenRule) → rule_of (some (rule_number r)) ≡ r
rule_back Weight = refl
rule_back Width = refl
rule_back TypeBits = refl
rule_back Rights = refl
rule_back Selection = refl
rule_back Regular = refl
rule_back Sizes = refl

pub why_back : (r : Why) → why_of (said_refusal r).number (said_refusal r).carried ≡ r
why_back LevelAbove = refl
why_back TooShort = refl
why_back (RuleBroken r) = ap RuleBroken (rule_back r)
why_back NoField = refl
why_back NoBit = refl

pub check_once : (r s : Result (Unit {0}) Why) → said_check r ≡ said_check s → r ≡ s
unfolding unless
check_once = once said_check hear back
  where
    hear : Outcome (Unit {0}) → Result (Unit {0}) Why
    hear (refused n c) = Err (why_of n c)
    hear (answered u) = Ok tt

    back : (r : Result (Unit {0}) Why) → hear (said_check r) ≡ r
    back (Ok u) = refl
    back (Err r) = ap Err (why_back r)

-- The words settle what the writer says: two answers that say the same are the same, of rewriting with the side that says it. Each `said` definition has
-- an inverse.
-- Assumes nothing.
use Prim.Native.Nat.{ℕ}
use mathlib.Core.Path.{◌≡◌, refl, ap, ap₂}
use mathlib.Core.Bool.{cond}
use mathlib.Core.Option.{Option, none, some}
use lib.Dec.{eqb}
use Rattle.std.specs.Prelude.{Result, Ok, Err}
use Rattle.outcomes.specs.Outcomes.{Outcome, refused, answered}
use Rattle.os2_rules.specs.declared.BrokenRule.{BrokenRule}
use Rattle.os2_rules.specs.declared.BrokenRule.TheVariants.{Weight}
use Rattle.os2_acceptance.specs.declared.Refusal.{Refusal as ReaderRefusal}
use Rattle.os2_acceptance.specs.declared.Refusal.TheVariants as Read·
use Rattle.os2_acceptance.proofs.Saying as Reader·
use Rattle.os2_writer.specs.declared.WriteRefusal.{WriteRefusal}
use Rattle.os2_writer.specs.declared.WriteRefusal.TheVariants.{NoVersion, NoRoom, DoesNotFit, RuleBroken}
use Rattle.os2_writer.specs.declared.RewriteRefusal.{RewriteRefusal}
use Rattle.os2_writer.specs.declared.RewriteRefusal.TheVariants.{Unread, Unwritten}
use Rattle.os2_writer.specs.Rewriting.{Side, reader, writer}
use Rattle.os2_writer.specs.Replies.{said_refusal, said_written, said_rewritten, side_of}

abbrev carried_in : Option ℕ → ℕ
carried_in none = 0
carried_in (some k) = k

-- the rule that the reader's refusal 3 names by its number
abbrev rule_in : ReaderRefusal → BrokenRule
rule_in (Read·.RuleBroken r) = r
rule_in Read·.LevelAbove = Weight
rule_in Read·.TooShort = Weight
rule_in Read·.NoField = Weight
rule_in Read·.NoBit = Weight

abbrev why_of : ℕ → Option ℕ → WriteRefusal
why_of n c = cond (eqb n 4) NoVersion (cond (eqb n 5) NoRoom (cond (eqb n 8) (DoesNotFit (carried_in c)) (RuleBroken (rule_in (Reader·.why_of 3 c)))))

why_back : (r : WriteRefusal) → why_of (said_refusal r).number (said_refusal r).carried ≡ r
why_back NoVersion = refl
why_back NoRoom = refl
why_back (DoesNotFit k) = refl
why_back (RuleBroken r) = ap (λ w. RuleBroken (rule_in w)) (Reader·.why_back (Read·.RuleBroken r))

pub written_once : (r s : Result ℕ WriteRefusal) → said_written r ≡ said_written s → r ≡ s
written_once = Reader·.once said_written hear back
  where
    hear : Outcome ℕ → Result ℕ WriteRefusal
    hear (refused n c) = Err (why_of n c)
    hear (answered n) = Ok n

    back : (r : Result ℕ WriteRefusal) → hear (said_written r) ≡ r
    back (Ok n) = refl
    back (Err r) = ap Err (why_back r)

pub rewritten_once : (r s : Result ℕ RewriteRefusal) → side_of r ≡ side_of s → said_rewritten r ≡ said_rewritten s → r ≡ s
rewritten_once r s d e = Reader·.once (λ x. (side_of x, said_rewritten x)) hear back r s (ap₂ (λ x y. (x, y)) d e)
  where
    hear : Side × Outcome ℕ → Result ℕ RewriteRefusal
    hear (reader, refused n c) = Err (Unread (Reader·.why_of n c))
    hear (writer, refused n c) = Err (Unwritten (why_of n c))
    hear (reader, answered n) = Ok n
    hear (writer, answered n) = Ok n

    back : (r : Result ℕ RewriteRefusal) → hear (side_of r, said_rewritten r) ≡ r
    back (Ok n) = refl
    back (Err (Unread r)) = ap (λ w. Err (Unread w)) (Reader·.why_back r)
    back (Err (Unwritten r)) = ap (λ w. Err (Unwritten w)) (why_back r)

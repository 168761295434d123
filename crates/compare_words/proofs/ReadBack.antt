-- From the words of a comparison what it says can be read back, so they lose nothing: no refusal has the number 0.
-- Assumes nothing.
use Prim.Native.Nat.{ℕ}
use mathlib.Core.Path.{◌≡◌, refl}
use mathlib.Core.Bool.{cond}
use mathlib.Core.Option.{Option, none, some}
use lib.Dec.{eqb}
use Rattle.outcomes.specs.Outcomes.{Refusal}
use Rattle.outcomes.proofs.Laws.{Only}
use Rattle.refusal_words.specs.declared.GvRefusal.{GvRefusal}
use Rattle.refusal_words.proofs.ReadBack.{Numbered}
use Rattle.comparing.specs.Comparisons.{Side}
use Rattle.comparing.specs.Comparisons.{Neither, Left, Right}
use Rattle.comparing.specs.Comparisons.{Blamed, Comparison, listed, refused, answer_of}
use Rattle.compare_words.specs.declared.GvCompared.{GvCompared}
use Rattle.compare_words.specs.Words.{compared_words}

-- the side of a number, the refusal in words, and what a struct says
abbrev side_in : ℕ → Side
side_in n = cond (eqb n 0) Neither (cond (eqb n 1) Left Right)

abbrev refusal_in : GvRefusal → Refusal
refusal_in w = record { number = w.number; carried = cond (eqb w.carries 0) none (some w.carried) }

abbrev pub compared_said : GvCompared → Comparison
compared_said w = cond (eqb w.refusal.number 0) (listed w.rows) (refused (side_in w.side) (refusal_in w.refusal))

refused_back : (s : Side) (r : Refusal) → Numbered r → compared_said (compared_words (refused s r)) ≡ refused s r
unfolding compared_words
refused_back s r h = at s r.carried
  where
    at : (t : Side) (c : Option ℕ) → compared_said (compared_words (refused t (record { number = r.number; carried = c }))) ≡ refused t (record { number = r.number; carried = c })
    at Neither none = rw h
    at Neither (some k) = rw h
    at Left none = rw h
    at Left (some k) = rw h
    at Right none = rw h
    at Right (some k) = rw h

-- an order of refusals that have numbers can be read back, and so can the number of rows
pub compared_back : (o : Option Blamed) (n : ℕ) → Only (λ b. Numbered b.refusal) o → compared_said (compared_words (answer_of o n)) ≡ answer_of o n
unfolding answer_of compared_words
compared_back none n p = refl
compared_back (some b) n p = refused_back b.side b.refusal (p b refl)

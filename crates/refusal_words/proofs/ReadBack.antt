-- From its words a refusal can be read back, so they lose nothing: where `number` is 0 the call is answered, since no refusal has the number 0.
-- Assumes nothing.
use Prim.Native.Nat.{ℕ}
use mathlib.Core.Path.{◌≡◌, refl}
use mathlib.Core.Bool.{false, cond}
use mathlib.Core.Option.{Option, none, some}
use lib.Dec.{eqb}
use Rattle.outcomes.specs.Outcomes.{Refusal, Outcome, refused, answered, accepted, unless, refusing}
use Rattle.outcomes.proofs.Laws.{Only}
use Rattle.refusal_words.specs.declared.GvRefusal.{GvRefusal}
use Rattle.refusal_words.specs.Words.{refusal_words, outcome_refusal}

-- ---- any struct

-- what a struct says, from its refusal and its answer
abbrev pub said : {A : Type 0} → GvRefusal → A → Outcome A
said w x = cond (eqb w.number 0) (answered x) (refused w.number (cond (eqb w.carries 0) none (some w.carried)))

-- a refusal that has a number
abbrev pub Numbered : Refusal → Type 0
Numbered r = eqb r.number 0 ≡ false

said_refused : {A : Type 0} (r : Refusal) (x : A) → Numbered r → said (refusal_words r.number r.carried) x ≡ refusing r
said_refused r x h = at r.carried
  where
    at : (c : Option ℕ) → said (refusal_words r.number c) x ≡ refused r.number c
    at none = rw h
    at (some k) = rw h

-- an order of refusals that have numbers can be read back, where what comes after it can
module _ {A W : Type 0} (words : Outcome A → W) (refusal : W → GvRefusal) (answer : W → A) where
  module _ (words_refused : (n : ℕ) (c : Option ℕ) → refusal (words (refused n c)) ≡ refusal_words n c) where
    abbrev pub Back : Outcome A → Type 0
    Back o = said (refusal (words o)) (answer (words o)) ≡ o

    pub back_unless : (r : Option Refusal) (o : Outcome A) → Only Numbered r → Back o → Back (unless r o)
    unfolding unless
    back_unless none o p h = h
    back_unless (some r) o p h = rw (words_refused r.number r.carried) (said_refused r _ (p r refl))

-- ---- the checks

abbrev pub check_said : GvRefusal → Outcome (Unit {0})
check_said w = said w tt

pub check_back : (r : Option Refusal) → Only Numbered r → check_said (outcome_refusal (unless r accepted)) ≡ unless r accepted
unfolding outcome_refusal
check_back r p = back_unless outcome_refusal (λ w. w) (λ w. tt) (λ n c. refl) r accepted p refl

-- What any call says, in document 01's numbers. "A refusal returns its number and what it carries, and no partial result."
use Rattle.std.specs.Prelude.{ℕ, Option as Maybe, Some, None, Result, Ok, Err}
use Rattle.std.proofs.Math.Option.{Option, none, some}
use Rattle.outcomes.specs.declared.Told.{Told}

-- a refusal: its number, and what it carries
pub record Refusal : Type 0 where
  pub number : ℕ
  pub carried : Option ℕ

-- one that "carries nothing", and one that carries a record, a tag, a rule or a field
abbrev pub bare : ℕ → Refusal
bare n = record { number = n; carried = none }

abbrev pub carrying : ℕ → ℕ → Refusal
carrying n k = record { number = n; carried = some k }

-- the outcome of any question
pub data Outcome (A : Type 0) : Type 0 where
  refused : ℕ → Option ℕ → Outcome A
  answered : A → Outcome A

-- what a check says of what it does not refuse
abbrev pub accepted : Outcome (Unit {0})
accepted = answered tt

-- the first refusal in an order, where there is one; else what comes after
unfoldable pub unless : {A : Type 0} → Option Refusal → Outcome A → Outcome A
unless (some r) o = refused r.number r.carried
unless none o = o

-- a refusal as an outcome
abbrev pub refusing : {A : Type 0} → Refusal → Outcome A
refusing r = refused r.number r.carried

-- what follows from what was found, or else this refusal
unfoldable pub found_or : {A B : Type 0} → Refusal → Option A → (A → Outcome B) → Outcome B
found_or r (some x) f = f x
found_or r none f = refusing r

-- what the code may have or may lack
abbrev pub option_of : {A : Type 0} → Maybe A → Option A
option_of (Some x) = some x
option_of None = none

-- the code's refusal in these words
abbrev pub refusal_of : Told → Refusal
refusal_of t = record { number = t.number; carried = option_of t.carried }

-- what a call of the code says, from what its value stands for and which refusal its error is
abbrev pub outcome_of : {T E A : Type 0} → (T → A) → (E → Refusal) → Result T E → Outcome A
outcome_of value why (Ok x) = answered (value x)
outcome_of value why (Err e) = refusing (why e)

-- the refusal that a check of the code finds, where it finds one
abbrev pub error_of : {T E : Type 0} → (E → Refusal) → Result T E → Option Refusal
error_of why (Ok x) = none
error_of why (Err e) = some (why e)

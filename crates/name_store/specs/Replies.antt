-- The enums of the code in document 02's numbers, case by case.
use Rattle.std.specs.Prelude.{ℕ, Result}
use Rattle.std.proofs.Math.Option.{Option}
use Rattle.outcomes.specs.Outcomes.{Refusal, bare, carrying, Outcome, outcome_of, error_of}
use Rattle.name_store.specs.declared.WriteRefusal.{WriteRefusal}
use Rattle.name_store.specs.declared.WriteRefusal.TheVariants.{TooMany, PastPool, LanguageRefused, KeyBelow, KeyEqual, TooFar, NoRoom}

-- a refusal's number, and what it carries
abbrev pub said_refusal : WriteRefusal → Refusal
said_refusal TooMany = bare 30
said_refusal (PastPool i) = carrying 31 i
said_refusal (LanguageRefused i) = carrying 18 i
said_refusal (KeyBelow i) = carrying 17 i
said_refusal (KeyEqual i) = carrying 19 i
said_refusal (TooFar i) = carrying 32 i
said_refusal NoRoom = bare 33

-- what came of writing
abbrev pub said_written : Result ℕ WriteRefusal → Outcome ℕ
said_written r = outcome_of (λ n. n) said_refusal r

-- the fault of an entry, if it has one
abbrev pub said_fault : Result ℕ WriteRefusal → Option Refusal
said_fault r = error_of said_refusal r

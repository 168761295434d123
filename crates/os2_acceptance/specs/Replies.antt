-- The code's refusals and checks in document 01's numbers, case by case.
use Rattle.std.specs.Prelude.{Result}
use Rattle.std.proofs.Math.Option.{Option}
use Rattle.outcomes.specs.Outcomes.{Refusal, bare, Outcome, accepted, unless, error_of}
use Rattle.os2_rules.specs.Tests.{said_rule}
use Rattle.os2_acceptance.specs.declared.Refusal.{Refusal as Why}
use Rattle.os2_acceptance.specs.declared.Refusal.TheVariants.{LevelAbove, TooShort, RuleBroken, NoField, NoBit}

-- a refusal's number, and what it carries
abbrev pub said_refusal : Why → Refusal
said_refusal LevelAbove = bare 1
said_refusal TooShort = bare 2
said_refusal (RuleBroken r) = said_rule r
said_refusal NoField = bare 6
said_refusal NoBit = bare 7

-- the refusal that a check finds, where it finds one
abbrev pub said_found : Result (Unit {0}) Why → Option Refusal
said_found r = error_of said_refusal r

-- what a check says
abbrev pub said_check : Result (Unit {0}) Why → Outcome (Unit {0})
said_check r = unless (said_found r) accepted

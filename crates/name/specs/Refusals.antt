-- Document 01, "Numbers given for a refusal", 10 to 18, and document 02, Ask 3, 19 and 27: what each case of the code says.
use Rattle.std.specs.Prelude.{Result}
use Rattle.std.proofs.Math.Option.{Option}
use Rattle.outcomes.specs.Outcomes as outcomes
use Rattle.outcomes.specs.Outcomes.{Outcome, bare, carrying, accepted, unless, error_of}
use Rattle.name.specs.declared.Refusal.{Refusal}
use Rattle.name.specs.declared.Refusal.TheVariants.{TooShort, UnknownFormat, RecordsPastEnd, TagsPastEnd, StorageMisplaced}
use Rattle.name.specs.declared.Refusal.TheVariants.{StringBeyond, TagString, KeyBelow, LanguageRefused, KeyEqual, StringRunsOver}

-- "No." and "Carries"
abbrev pub said_refusal : Refusal → outcomes.Refusal
said_refusal TooShort = bare 10
said_refusal UnknownFormat = bare 11
said_refusal RecordsPastEnd = bare 12
said_refusal TagsPastEnd = bare 13
said_refusal StorageMisplaced = bare 14
said_refusal (StringBeyond i) = carrying 15 i
said_refusal (TagString i) = carrying 16 i
said_refusal (KeyBelow i) = carrying 17 i
said_refusal (LanguageRefused i) = carrying 18 i
said_refusal (KeyEqual i) = carrying 19 i
said_refusal (StringRunsOver i) = carrying 27 i

-- the refusal that a check of the code finds, and what the check says as an outcome
abbrev pub said_fault : Result (Unit {0}) Refusal → Option outcomes.Refusal
said_fault r = error_of said_refusal r

abbrev pub said_check : Result (Unit {0}) Refusal → Outcome (Unit {0})
said_check r = unless (said_fault r) accepted

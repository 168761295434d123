-- Document 01, "Lookup gives the string's start, from the table's first byte, and its length", and refusal 20; document 02, Ask 4: and "the record's number";
-- Ask 8: and "the number of records it looked at after its check of the table".
use Rattle.std.specs.Prelude.{ℕ, List, Result}
use Rattle.std.proofs.Math.Option.{Option, none, some}
use Rattle.outcomes.specs.Outcomes as outcomes
use Rattle.outcomes.specs.Outcomes.{bare, Outcome, answered, unless, found_or, outcome_of}
use Rattle.name_layout.specs.Keys.{Key}
use Rattle.name.specs.Refusals.{said_refusal}
use Rattle.name.specs.Acceptance.{faults}
use Rattle.name_search.specs.declared.Text.{Text}
use Rattle.name_search.specs.Searches.{record_with, looks_for, text_of}
use Rattle.name_lookup.specs.declared.LookupRefusal.{LookupRefusal}
use Rattle.name_lookup.specs.declared.LookupRefusal.TheVariants.{Table, NoRecord}
use Rattle.name_lookup.specs.declared.LookedUp.{LookedUp}

-- "Every 'name' question checks the whole table first and passes on that refusal"; then 20: "no record has the key"; else the record's string
unfoldable pub lookup_of : List ℕ → Key → Outcome Text
lookup_of t k = unless (faults t) (found_or (bare 20) (record_with t k) (λ i. answered (text_of t i)))

-- "A refused table reports 0"
unfoldable pub reported : Option outcomes.Refusal → ℕ → ℕ
reported (some r) looked = 0
reported none looked = looked

-- "A lookup shall report the number of records it looked at after its check of the table, found or not"
unfoldable pub looked_of : List ℕ → Key → ℕ
looked_of t k = reported (faults t) (looks_for t k)

-- what the code's refusals and answers say
abbrev pub said_lookup_refusal : LookupRefusal → outcomes.Refusal
said_lookup_refusal (Table r) = said_refusal r
said_lookup_refusal NoRecord = bare 20

abbrev pub said_answer : Result Text LookupRefusal → Outcome Text
said_answer r = outcome_of (λ x. x) said_lookup_refusal r

abbrev pub said_lookup : LookedUp → Outcome Text
said_lookup l = said_answer l.answer

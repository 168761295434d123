-- Document 01, "PostScript name and version number": "Only two records count (001): (1, 0, 0, 6), one byte a character, and (3, 1, 0x409, 6), two bytes a character."
use Rattle.std.specs.Prelude.{ℕ, true, false, List, Result}
use Rattle.std.proofs.Math.Option.{Option, none, some}
use Rattle.outcomes.specs.Firsts.{◌then◌}
use Rattle.outcomes.specs.Outcomes as outcomes
use Rattle.outcomes.specs.Outcomes.{bare, Outcome, refused, answered, unless, outcome_of}
use Rattle.name_layout.specs.Layout.{bytes_of}
use Rattle.name_layout.specs.Keys.{key_from}
use Rattle.name.specs.Refusals.{said_refusal}
use Rattle.name.specs.Acceptance.{faults}
use Rattle.name_search.specs.declared.Text.{Text}
use Rattle.name_search.specs.Searches.{record_with, text_of}
use Rattle.characters.specs.Strings.{characters}
use Rattle.name_answers.specs.Forms.{ill_formed, differ}
use Rattle.name_answers.specs.declared.PostscriptRefusal.{PostscriptRefusal}
use Rattle.name_answers.specs.declared.PostscriptRefusal.TheVariants.{Table, NoRecord, OneRecord, IllFormed, Different}

-- 23: "a PostScript string is ill-formed"
abbrev pub either_ill : List ℕ → List ℕ → Option outcomes.Refusal
either_ill first second = ill_formed false first then ill_formed true second

-- 24: "the two differ", in their characters
abbrev pub unlike : List ℕ → List ℕ → Option outcomes.Refusal
unlike first second = differ (characters false first) (characters true second)

-- "Both must be well formed before they are compared"; else the first record's string, with that record's number
unfoldable pub from_strings : Text → List ℕ → List ℕ → Outcome Text
from_strings name first second = unless (either_ill first second then unlike first second) (answered name)

-- 21: "neither PostScript record present"; 22: "exactly one present"
unfoldable pub from_both : List ℕ → Option ℕ → Option ℕ → Outcome Text
from_both t none none = refused 21 none
from_both t (some i) none = refused 22 none
from_both t none (some j) = refused 22 none
from_both t (some i) (some j) = from_strings (text_of t i) (bytes_of t i) (bytes_of t j)

-- the answer, after the check of the table
unfoldable pub postscript_of : List ℕ → Outcome Text
postscript_of t = unless (faults t) (from_both t (record_with t (key_from 1 0 0 6)) (record_with t (key_from 3 1 1033 6)))

-- what the code's refusals and answers say
abbrev pub said_name_refusal : PostscriptRefusal → outcomes.Refusal
said_name_refusal (Table r) = said_refusal r
said_name_refusal NoRecord = bare 21
said_name_refusal OneRecord = bare 22
said_name_refusal IllFormed = bare 23
said_name_refusal Different = bare 24

abbrev pub said_name : Result Text PostscriptRefusal → Outcome Text
said_name r = outcome_of (λ x. x) said_name_refusal r

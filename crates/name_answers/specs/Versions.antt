-- Document 01, "The version string is (3, 1, 0x409, 5); only if that is not there, (1, 0, 0, 5); if neither, 20."
use Rattle.std.specs.Prelude.{ℕ, true, false, List, Result}
use Rattle.std.proofs.Math.Option.{Option, none, some}
use Rattle.outcomes.specs.Outcomes as outcomes
use Rattle.outcomes.specs.Outcomes.{bare, Outcome, refused, answered, unless, outcome_of}
use Rattle.name_layout.specs.Layout.{bytes_of}
use Rattle.name_layout.specs.Keys.{key_from}
use Rattle.name.specs.Refusals.{said_refusal}
use Rattle.name.specs.Acceptance.{faults}
use Rattle.name_search.specs.Searches.{record_with}
use Rattle.version_text.specs.Versions.{Figures, version_in}
use Rattle.name_answers.specs.declared.VersionRefusal.{VersionRefusal}
use Rattle.name_answers.specs.declared.VersionRefusal.TheVariants.{Table, NoRecord, NoNumber}
use Rattle.name_answers.specs.declared.VersionAt.{VersionAt}

-- a version number, and by document 02, Ask 4, "the number of the record that they used"
pub record Reading : Type 0 where
  pub major : ℕ
  pub minor : ℕ
  pub «record» : ℕ

-- what is read in record i's string, with the record's number; a refusal has none
unfoldable pub read_from : ℕ → Outcome Figures → Outcome Reading
read_from i (answered f) = answered (record { major = f.major; minor = f.minor; «record» = i })
read_from i (refused n c) = refused n c

-- the platform 3 record, two bytes a character; "only if that is not there" the platform 1 record, one byte; "if neither, 20"
unfoldable pub from_records : List ℕ → Option ℕ → Option ℕ → Outcome Reading
from_records t (some i) q = read_from i (version_in true (bytes_of t i))
from_records t none (some i) = read_from i (version_in false (bytes_of t i))
from_records t none none = refused 20 none

-- the answer, after the check of the table
unfoldable pub version_of : List ℕ → Outcome Reading
version_of t = unless (faults t) (from_records t (record_with t (key_from 3 1 1033 5)) (record_with t (key_from 1 0 0 5)))

-- what the code's refusals and answers say
abbrev pub said_version_refusal : VersionRefusal → outcomes.Refusal
said_version_refusal (Table r) = said_refusal r
said_version_refusal NoRecord = bare 20
said_version_refusal NoNumber = bare 25

abbrev pub read_at : VersionAt → Reading
read_at v = record { major = v.major; minor = v.minor; «record» = v.«record» }

abbrev pub said_version : Result VersionAt VersionRefusal → Outcome Reading
said_version r = outcome_of read_at said_version_refusal r

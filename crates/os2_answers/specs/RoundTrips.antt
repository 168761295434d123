-- Demand 2's last two sentences as predicates over any reader and writer.
use Rattle.std.specs.Prelude.{ℕ, ◌≤◌, ◌≡◌, List, ◌++◌, length, take, ℤ, pos}
use Rattle.outcomes.specs.Outcomes.{Outcome, answered}
use Rattle.bigendian.specs.Numbers.{Bytes}
use Rattle.level.specs.Levels.{newest}
use Rattle.level.specs.Sizes.{table_size}
use Rattle.os2_fields.specs.Fields.{version}
use Rattle.os2_store.specs.Writing.{number_for, InVersion, Holds}
use Rattle.os2_acceptance.specs.Settled.{Accepted}
use Rattle.os2_questions.specs.declared.Question.{Question}
use Rattle.os2_questions.specs.declared.Question.TheVariants.{Field}
use Rattle.os2_answers.specs.Values.{integer, Said, value}

-- a reader at level 5 gives the numbers xs for the fields that version v has, whatever stands in xs for the others
abbrev pub Gives : (ℕ → List ℕ → Question → Outcome Said) → ℕ → List ℕ → List ℤ → Type 0
Gives read v b xs = (k : ℕ) → InVersion v k → read newest b (Field k) ≡ answered (value (integer (number_for xs k)))

-- "An OS/2 table we write, read at level 5, gives back each value of its version's fields", whatever follows it
abbrev pub ReadsBack : (ℕ → List ℕ → Question → Outcome Said) → (List ℤ → ℕ → Outcome ℕ) → (List ℤ → List ℕ → List ℕ) → Type 0
ReadsBack read result room =
    (xs : List ℤ) (r : List ℕ) (v n : ℕ) → number_for xs 0 ≡ pos v → result xs (length r) ≡ answered n → (rest : List ℕ) →
    Accepted newest (take n (room xs r) ++ rest) × Gives read v (take n (room xs r) ++ rest) xs

-- "One of version 0 to 5 that level 5 accepts, rewritten, is the same bytes up to its version's size": the reader gives numbers for the version's
-- fields, and any such numbers are written as these bytes into any room that is long enough
abbrev pub Rewrites : (ℕ → List ℕ → Question → Outcome Said) → (List ℤ → ℕ → Outcome ℕ) → (List ℤ → List ℕ → List ℕ) → Type 0
Rewrites read result room =
    (b : List ℕ) → Bytes b → version b ≤ newest → Accepted newest b →
    ((xs : List ℤ) × Gives read (version b) b xs) ×
    ((xs : List ℤ) → Gives read (version b) b xs → (r : List ℕ) → table_size (version b) ≤ length r →
    (result xs (length r) ≡ answered (table_size (version b))) × Holds (version b) b r (room xs r))

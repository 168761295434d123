-- Demands 1 and 2 of acceptance as predicates over any check: nothing here speaks of ours.
use Rattle.std.specs.Prelude.{ℕ, min, ◌≤◌, ◌≡◌, ◌↔◌, List, take}
use Rattle.outcomes.specs.Outcomes.{Outcome, accepted}
use Rattle.level.specs.Levels.{newest}
use Rattle.level.specs.Sizes.{table_size}
use Rattle.os2_fields.specs.Fields.{version}
use Rattle.os2_acceptance.specs.Settled.{Accepted, CheckSettled}

-- demand 2: "A table is accepted exactly when the OpenType rules condensed in document 01 hold."; a number above 5 accepts none
abbrev pub AcceptsExactly : (ℕ → List ℕ → Outcome (Unit {0})) → Type 0
AcceptsExactly check = (L : ℕ) (b : List ℕ) → (check L b ≡ accepted) ↔ ((L ≤ newest) × Accepted L b)

-- demand 1: each refusal has its number, in its order
abbrev pub ChecksSettled : (ℕ → List ℕ → Outcome (Unit {0})) → Type 0
ChecksSettled check = (L : ℕ) (b : List ℕ) → CheckSettled L b (check L b)

-- the first bytes of a table, up to the size for the smaller of w and L
abbrev pub trimmed : ℕ → List ℕ → List ℕ
trimmed L b = take (table_size (min (version b) L)) b

-- "Extra bytes are allowed and not read.": the check says the same of a table's first bytes, up to that size
abbrev pub ChecksNoMore : (ℕ → List ℕ → Outcome (Unit {0})) → Type 0
ChecksNoMore check = (L : ℕ) (b : List ℕ) → check L (trimmed L b) ≡ check L b

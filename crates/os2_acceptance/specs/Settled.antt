-- What document 01 settles of acceptance, in propositions: which bytes a level accepts, and which refusal the others get.
use Rattle.std.specs.Prelude.{ℕ, ◌<◌, ◌≤◌, min, ◌⊎◌, List, length}
use Rattle.std.proofs.Math.Option.{none, some}
use Rattle.outcomes.specs.Outcomes.{Outcome, refused, accepted}
use Rattle.level.specs.Levels.{newest}
use Rattle.level.specs.Sizes.{table_size}
use Rattle.os2_rules.specs.Rules.{Rules, FirstBroken}
use Rattle.os2_fields.specs.Fields.{raw, version, values_of}

-- 2's condition
abbrev pub Short : ℕ → List ℕ → Type 0
Short L b = (length b < 2) ⊎ (length b < table_size (min (version b) L))

-- 3's condition, with the first rule broken: "only when w is at most L"
abbrev pub BreaksFirst : ℕ → List ℕ → ℕ → Type 0
BreaksFirst L b k = (version b ≤ L) × FirstBroken (values_of (raw b)) k

-- "A level accepts the bytes exactly when neither 2's nor 3's condition holds for them there, whatever is asked."
pub record Accepted (L : ℕ) (b : List ℕ) : Type 0 where
  pub two : 2 ≤ length b
  pub sized : table_size (min (version b) L) ≤ length b
  pub ruled : version b ≤ L → Rules (values_of (raw b))

-- what a level, given by any number, says of a table: "1 .. 2, 3", and acceptance last
pub data CheckSettled (L : ℕ) (b : List ℕ) : Outcome (Unit {0}) → Type 0 where
  check_above : newest < L → CheckSettled L b (refused 1 none)
  check_short : L ≤ newest → Short L b → CheckSettled L b (refused 2 none)
  check_broken : {k : ℕ} → L ≤ newest → (Short L b → ⊥) → BreaksFirst L b k → CheckSettled L b (refused 3 (some k))
  check_accepted : L ≤ newest → Accepted L b → CheckSettled L b accepted

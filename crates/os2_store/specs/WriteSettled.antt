-- What document 01 settles of writing, in propositions: which refusal is given, in the order 4, 5, 8, 3, or which size is answered.
use Rattle.std.specs.Prelude.{ℕ, ◌/◌, ◌^◌, ◌<◌, ◌≤◌, ◌≡◌, true, false, List, ℤ, pos, negsuc}
use Rattle.std.proofs.Math.Option.{none, some}
use Rattle.outcomes.specs.Outcomes.{Outcome, refused, answered}
use Rattle.level.specs.Levels.{newest}
use Rattle.level.specs.Sizes.{table_size}
use Rattle.os2_rules.specs.Rules.{Rules, FirstBroken}
use Rattle.os2_fields.specs.declared.catalogue.Field.{Field}
use Rattle.os2_fields.specs.Catalogue.{field_count, field_of}
use Rattle.os2_fields.specs.Fields.{values_of}
use Rattle.os2_store.specs.Writing.{number_for, code_for, InVersion}

-- a whole number that fits a field. negsuc x is the number -1 - x
pub data Fits (f : Field) : ℤ → Type 0 where
  unsigned_fits : {x : ℕ} → f.signed ≡ false → x < 256 ^ f.width → Fits f (pos x)
  positive_fits : {x : ℕ} → f.signed ≡ true → x < 256 ^ f.width / 2 → Fits f (pos x)
  negative_fits : {x : ℕ} → f.signed ≡ true → x < 256 ^ f.width / 2 → Fits f (negsuc x)

-- each value of version v's fields below n fits
abbrev pub AllFit : ℕ → List ℤ → ℕ → Type 0
AllFit v xs n = (k : ℕ) → k < n → (field_of k).since ≤ v → Fits (field_of k) (number_for xs k)

-- the version is v, one of 0 to 5
abbrev pub IsVersion : List ℤ → ℕ → Type 0
IsVersion xs v = (number_for xs 0 ≡ pos v) × (v ≤ newest)

-- field k is the lowest of version v's that its number does not fit
pub record FirstMisfit (v : ℕ) (xs : List ℤ) (k : ℕ) : Type 0 where
  pub has : InVersion v k
  pub unfit : Fits (field_of k) (number_for xs k) → ⊥
  pub earlier : AllFit v xs k

-- r is the length of the room
pub data WriteSettled (xs : List ℤ) (r : ℕ) : Outcome ℕ → Type 0 where
  outside_versions : ((v : ℕ) → IsVersion xs v → ⊥) → WriteSettled xs r (refused 4 none)
  room_short : {v : ℕ} → IsVersion xs v → r < table_size v → WriteSettled xs r (refused 5 none)
  does_not_fit : {v k : ℕ} → IsVersion xs v → table_size v ≤ r → FirstMisfit v xs k → WriteSettled xs r (refused 8 (some k))
  breaks_rule : {v n : ℕ} → IsVersion xs v → table_size v ≤ r → AllFit v xs field_count → FirstBroken (values_of (code_for xs)) n →
      WriteSettled xs r (refused 3 (some n))
  is_written : {v : ℕ} → IsVersion xs v → table_size v ≤ r → AllFit v xs field_count → Rules (values_of (code_for xs)) →
      WriteSettled xs r (answered (table_size v))

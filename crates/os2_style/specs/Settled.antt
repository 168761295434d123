-- What documents 01 and 02 settle of rights and optical sizes, in propositions on the stored numbers.
use Rattle.std.specs.Prelude.{ℕ, ◌≤◌, ◌≡◌}
use Rattle.os2_rules.specs.Bits.{bit}
use Rattle.os2_style.specs.Style.{Sizes, every, upwards, between, points}

-- Document 02, Ask 1: "For versions 0 to 2 rights are editable if bit 3 is set, else preview if bit 2, else restricted if bit 1, else installable."
-- From version 3 on it is document 01's sentence, which stands below it.
pub data RightsAre (fstype : ℕ) : ℕ → Type 0 where
  editable : bit 3 fstype ≡ 1 → RightsAre fstype 3
  preview : bit 3 fstype ≡ 0 → bit 2 fstype ≡ 1 → RightsAre fstype 2
  restricted : bit 3 fstype ≡ 0 → bit 2 fstype ≡ 0 → bit 1 fstype ≡ 1 → RightsAre fstype 1
  installable : bit 3 fstype ≡ 0 → bit 2 fstype ≡ 0 → bit 1 fstype ≡ 0 → RightsAre fstype 0

-- Document 01: "installable (none of bits 1 to 3), restricted (1), preview (2), editable (3)"
pub data ByOneBit (fstype : ℕ) : ℕ → Type 0 where
  none_set : bit 1 fstype ≡ 0 → bit 2 fstype ≡ 0 → bit 3 fstype ≡ 0 → ByOneBit fstype 0
  one_set : {k : ℕ} → 1 ≤ k → k ≤ 3 → bit k fstype ≡ 1 → ByOneBit fstype k

-- "every size (0 and 65535), from a size upwards (upper 65535), or between two sizes, in points"
pub data SizesAre (lower upper : ℕ) : Sizes → Type 0 where
  all : lower ≡ 0 → upper ≡ 65535 → SizesAre lower upper every
  from_lower : (lower ≡ 0 → ⊥) → upper ≡ 65535 → SizesAre lower upper (upwards (points lower))
  both : (upper ≡ 65535 → ⊥) → SizesAre lower upper (between (points lower) (points upper))

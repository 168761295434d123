-- Document 01's value rules as propositions, in its words and order; rule 4 as document 02 has it.
use Rattle.std.specs.Prelude.{ℕ, ◌+◌, ◌<◌, ◌≤◌, ◌≡◌}
use Rattle.os2_rules.specs.Bits.{bit}
use Rattle.os2_rules.specs.declared.Values.{Values}

-- bits a to e of x are clear
abbrev pub Clear : ℕ → ℕ → ℕ → Type 0
Clear a e x = (k : ℕ) → a ≤ k → k ≤ e → bit k x ≡ 0

-- 1. "weight 1 to 1000"
abbrev pub WeightRule : ℕ → Type 0
WeightRule weight = (1 ≤ weight) × (weight ≤ 1000)

-- 2. "width 1 to 9"
abbrev pub WidthRule : ℕ → Type 0
WidthRule width = (1 ≤ width) × (width ≤ 9)

-- 3. "fsType bits 0, 4 to 7, 10 to 15 clear"
abbrev pub TypeRule : ℕ → Type 0
TypeRule fstype = Clear 0 0 fstype × (Clear 4 7 fstype × Clear 10 15 fstype)

-- 4. "at most one of fsType bits 1, 2, 3 set". Document 02, Ask 1: "Value rule 4 shall apply only from version 3."
abbrev pub RightsRule : ℕ → ℕ → Type 0
RightsRule version fstype = 3 ≤ version → bit 1 fstype + bit 2 fstype + bit 3 fstype ≤ 1

-- 5. "fsSelection bits 10 to 15 clear, and bits 7 to 9 clear when w is below 4"
abbrev pub SelectionRule : ℕ → ℕ → Type 0
SelectionRule version fsselection = Clear 10 15 fsselection × (version < 4 → Clear 7 9 fsselection)

-- 6. "fsSelection bit 6 set means bits 0 and 5 clear"
abbrev pub RegularRule : ℕ → Type 0
RegularRule fsselection = bit 6 fsselection ≡ 1 → (bit 0 fsselection ≡ 0) × (bit 5 fsselection ≡ 0)

-- 7. "in version 5, lower optical size below upper"
abbrev pub SizesRule : ℕ → ℕ → ℕ → Type 0
SizesRule version lower upper = version ≡ 5 → lower < upper

-- value rule k holds
pub record Rule (v : Values) (k : ℕ) : Type 0 where
  pub rule_1 : k ≡ 1 → WeightRule v.weight
  pub rule_2 : k ≡ 2 → WidthRule v.width
  pub rule_3 : k ≡ 3 → TypeRule v.fstype
  pub rule_4 : k ≡ 4 → RightsRule v.version v.fstype
  pub rule_5 : k ≡ 5 → SelectionRule v.version v.fsselection
  pub rule_6 : k ≡ 6 → RegularRule v.fsselection
  pub rule_7 : k ≡ 7 → SizesRule v.version v.lower v.upper

-- every rule holds
abbrev pub Rules : Values → Type 0
Rules v = (k : ℕ) → Rule v k

-- "first rule broken, 1 to 7": rule k does not hold, and every rule before it does
pub record FirstBroken (v : Values) (k : ℕ) : Type 0 where
  pub broken : Rule v k → ⊥
  pub earlier : (j : ℕ) → j < k → Rule v j

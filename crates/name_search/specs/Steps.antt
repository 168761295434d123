-- Document 02, Ask 8: the steps of a search among the keys 0, 1, .., count - 1, in propositions and as a number. Nothing here knows a table.
-- "The steps are fixed: between a low number (included, at first 0) and a high one (excluded, at first the count), look at half their sum rounded down; equal
-- ends it, a smaller key moves low to one past, a larger key moves high to there; it ends when low meets high."
use Rattle.std.specs.Prelude.{ℕ, zero, suc, ◌+◌, ◌/◌, ◌<◌, ◌≡◌, ◌⊎◌, Bool, true, false, ltb}
use Rattle.name_layout.specs.Keys.{Key, KeyBelow, same, below}

-- "half their sum rounded down": a number that twice is the sum, or one below it
abbrev pub HalfOf : ℕ → ℕ → Type 0
HalfOf sum m = (sum ≡ m + m) ⊎ (sum ≡ m + m + 1)

-- a search for k looks at so many of the keys from low on and below high
pub data Steps (key : ℕ → Key) (k : Key) : ℕ → ℕ → ℕ → Type 0 where
  -- "it ends when low meets high"
  meets : {low high : ℕ} → low ≡ high → Steps key k low high 0
  -- "equal ends it"
  ends : {low high m : ℕ} → low < high → HalfOf (low + high) m → key m ≡ k → Steps key k low high 1
  -- "a smaller key moves low to one past"
  moves_low : {low high m looked : ℕ} → low < high → HalfOf (low + high) m → KeyBelow (key m) k → Steps key k (m + 1) high looked → Steps key k low high (looked + 1)
  -- "a larger key moves high to there"
  moves_high : {low high m looked : ℕ} → low < high → HalfOf (low + high) m → KeyBelow k (key m) → Steps key k low m looked → Steps key k low high (looked + 1)

-- ---- as a number

-- the key that is looked at
abbrev pub middle : ℕ → ℕ → ℕ
middle low high = (low + high) / 2

-- a turn, by three tests: whether low is below high, and whether the key that is looked at is equal to the one that is sought or smaller; and by what the turns that
-- follow look at
unfoldable pub turn : (apart equal smaller : Bool) → (ℕ → ℕ → ℕ) → ℕ → ℕ → ℕ
turn false equal smaller rest low high = 0
turn true true smaller rest low high = 1
turn true false true rest low high = rest (middle low high + 1) high + 1
turn true false false rest low high = rest low (middle low high) + 1

-- in so many turns at most
unfoldable pub looks : (equal smaller : ℕ → Bool) → ℕ → ℕ → ℕ → ℕ
looks equal smaller zero low high = 0
looks equal smaller (suc turns) low high = turn (ltb low high) (equal (middle low high)) (smaller (middle low high)) (looks equal smaller turns) low high

-- among so many keys
abbrev pub looks_among : (ℕ → Key) → Key → ℕ → ℕ
looks_among key k count = looks (λ i. same (key i) k) (λ i. below (key i) k) count 0 count

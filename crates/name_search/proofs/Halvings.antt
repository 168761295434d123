-- What halving keeps among keys that rise, and that a scan then finds the same. Nothing here knows a table.
-- Assumes nothing.
use Prim.Native.Nat.{ℕ, zero, suc, ◌+◌, ◌≤◌, ◌<◌}
use mathlib.Core.Path.{◌≡◌, refl}
use mathlib.Core.Logic.{⊎_elim}
use mathlib.Core.Option.{Option, none, some}
use native.Mathlib.Nat.{not-suc-le-zero, le_of_suc-le-suc, eq-or-lt_of_le}
use native.Mathlib.Decide.{dec_lt}
use native.Mathlib.Omega.{arith}
use lib.Dec.{eqb}
use Rattle.outcomes.specs.Firsts.{when, first_among}
use Rattle.outcomes.proofs.Laws.{when_none, when_some, first_all, first_exactly}
use Rattle.outcomes.proofs.Tests.{equal, unequal}

-- each key is above all before it
unfoldable pub Rising : (ℕ → ℕ) → ℕ → Type 0
Rising key n = (i j : ℕ) → i < j → j < n → key i < key j

-- keys that rise from each to the next rise throughout
pub rising : (key : ℕ → ℕ) (n : ℕ) → ((i : ℕ) → suc i < n → key i < key (suc i)) → Rising key n
unfolding Rising
rising key n step i zero l h = absurd (not-suc-le-zero l)
rising key n step i (suc j) l h =
    ⊎_elim (λ q. rw q (step j h)) (λ q. omega (arith, step j h, rising key n step i j q (omega arith)))
    (eq-or-lt_of_le (le_of_suc-le-suc l))

-- the key k stands at no index outside low .. high - 1
pub record Between (key : ℕ → ℕ) (k n low high : ℕ) : Type 0 where
  pub low_le : low ≤ high
  pub high_le : high ≤ n
  pub below : (j : ℕ) → j < low → key j < k
  pub above : (j : ℕ) → high ≤ j → j < n → k < key j

module _ (key : ℕ → ℕ) (k : ℕ) where
  -- what a scan finds
  abbrev pub scan : ℕ → Option ℕ
  scan n = first_among (λ i. when (eqb (key i) k) i) n

  pub scan_none : (n : ℕ) → ((j : ℕ) → j < n → key j ≡ k → ⊥) → scan n ≡ none
  scan_none n f = (first_all _ n).1 (λ j l. (when_none (eqb (key j) k) j).1 ((unequal (key j) k).1 (f j l)))

  pub scan_found : (i n : ℕ) → i < n → key i ≡ k → Rising key n → scan n ≡ some i
  unfolding Rising
  scan_found i n l e up =
      (first_exactly _ n i).1 (record {
        place = i;
        inside = l;
        here = (when_some (eqb (key i) k) i i).1 ((equal (key i) k).1 e, refl);
        earlier = λ j h. (when_none (eqb (key j) k) j).1 ((unequal (key j) k).1 (λ x. omega (arith, up j i h l)));
      })

  pub start : (n : ℕ) → Between key k n 0 n
  start n = record {
    low_le = omega arith;
    high_le = omega arith;
    below = λ j l. absurd (not-suc-le-zero l);
    above = λ j l₁ l₂. absurd (omega arith);
  }

  module _ {n low high : ℕ} (up : Rising key n) (b : Between key k n low high) (m : ℕ) (l : low ≤ m) (h : m < high) where
    pub upward : key m < k → Between key k n (m + 1) high
    unfolding Rising
    upward c = record {
      low_le = omega arith;
      high_le = b.high_le;
      below = λ j q. ⊎_elim (λ e. rw e c) (λ q'. let z : key j < key m = up j m q' (omega arith) in omega arith) (eq-or-lt_of_le {n = j} {m = m} (omega arith));
      above = b.above;
    }

    pub downward : k < key m → Between key k n low m
    unfolding Rising
    downward c = record {
      low_le = l;
      high_le = omega arith;
      below = b.below;
      above = λ j q q₁. ⊎_elim (λ e. rw (← e) c) (λ q'. let z : key m < key j = up m j q' q₁ in omega arith) (eq-or-lt_of_le q);
    }

  -- low has met high: no index has the key
  pub nowhere : {n m : ℕ} → Between key k n m m → scan n ≡ none
  nowhere {n} {m} b = scan_none n (λ j l e. side j l e (dec_lt j m))
    where
      side : (j : ℕ) → j < n → key j ≡ k → Dec (j < m) → ⊥
      side j l e (yes q) = omega (arith, b.below j q)
      side j l e (no q) = omega (arith, b.above j (omega arith) l)

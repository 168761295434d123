-- One more digit of a number is one store before those that stand already.
-- Assumes nothing.
use Rattle.std.proofs.Common.{ℕ, zero, suc, ◌-◌, ◌/◌, ◌≤◌, ◌<◌, ◌≡◌, true, false, List, ◌∷◌, length, drop, set, ltb, arith}
use borrow.Author.Tests.{lt-ltb, le-ltb}
use lib.ListN.{length-set}
use lib.Seq.{drop-cons, get_or-set_same, drop-set-lt}
use Rattle.lines.specs.Numerals.{last_digit, digits}

store : (l : List ℕ) (k x : ℕ) → k < length l → drop k (set l k x) ≡ x ∷ drop (suc k) l
store l k x h =
    let long : k < length (set l k x) = rw (length-set l k x) h in
    let past : k < suc k = omega arith in
    rw (drop-cons (set l k x) k 0 long, get_or-set_same l k x 0 h, drop-set-lt (suc k) l k x past)

module _ (l : List ℕ) (n : ℕ) where
  pub digits_last : (k : ℕ) → 0 < k → k ≤ length l → n < 10 → drop (k - 1) (set l (k - 1) (last_digit n)) ≡ digits k n (drop k l)
  unfolding digits
  digits_last zero p h t = absurd (omega arith)
  digits_last (suc k) p h t =
      let e : ltb n 10 ≡ true = lt-ltb n 10 t in
      let z : suc k - 1 ≡ k = omega arith in
      let q : k < length l = omega arith in
      rw (z, store l k (last_digit n) q, e)

  pub digits_next : (k : ℕ) → 0 < k → k ≤ length l → 10 ≤ n
      → digits (k - 1) (n / 10) (drop (k - 1) (set l (k - 1) (last_digit n))) ≡ digits k n (drop k l)
  unfolding digits
  digits_next zero p h t = absurd (omega arith)
  digits_next (suc k) p h t =
      let e : ltb n 10 ≡ false = le-ltb n 10 t in
      let z : suc k - 1 ≡ k = omega arith in
      let q : k < length l = omega arith in
      rw (z, store l k (last_digit n) q, e)

-- The digits of a number read as that number, since the last digit completes what the others read as; the first is that of a number below ten that is not 0.
-- Assumes nothing.
use Prim.Native.Nat.{ℕ, zero, suc, ◌/◌, ◌^◌, ◌≤◌, ◌<◌}
use mathlib.Core.Path.{◌≡◌, ap}
use mathlib.Core.List.{List, [], ◌∷◌}
use native.Mathlib.Omega.{arith}
use native.Mathlib.Decide.{dec_lt}
use lib.ListN.{get_or}
use borrow.Author.Tests.{lt-ltb, le-ltb}
use Rattle.characters.specs.Digits.{longer, reads_from}
use Rattle.lines.specs.Numerals.{last_digit, digits, decimal, DecimalReads, NoLeadingZero}

reads : (k n : ℕ) (after : List ℕ) → n < 10 ^ k → reads_from 0 (digits k n after) ≡ reads_from n after
unfolding digits
reads zero n after h = let z : n ≡ 0 = omega arith in rw z
reads (suc k) n after h = side (dec_lt n 10) (λ g. reads k (n / 10) (last_digit n ∷ after) g)
  where
    side : Dec (n < 10)
        → (n / 10 < 10 ^ k → reads_from 0 (digits k (n / 10) (last_digit n ∷ after)) ≡ reads_from (n / 10) (last_digit n ∷ after))
        → reads_from 0 (digits (suc k) n after) ≡ reads_from n after
    side (yes l) f =
        let e : longer 0 (last_digit n) ≡ n = omega arith in
        rw (lt-ltb n 10 l) (ap (λ (x : ℕ). reads_from x after) e)
    side (no l) f =
        let g : 10 ≤ n = omega arith in
        let small : n / 10 < 10 ^ k = omega arith in
        let e : longer (n / 10) (last_digit n) ≡ n = omega arith in
        rw (le-ltb n 10 g, f small) (ap (λ (x : ℕ). reads_from x after) e)

pub decimal_reads : DecimalReads
unfolding decimal
decimal_reads n h = reads 20 n [] h

leads : (k n : ℕ) (after : List ℕ) → 0 < n → n < 10 ^ k → 48 < get_or (digits k n after) 0 0
unfolding digits
leads zero n after p h = absurd (omega arith)
leads (suc k) n after p h = side (dec_lt n 10) (λ q g. leads k (n / 10) (last_digit n ∷ after) q g)
  where
    side : Dec (n < 10) → (0 < n / 10 → n / 10 < 10 ^ k → 48 < get_or (digits k (n / 10) (last_digit n ∷ after)) 0 0) → 48 < get_or (digits (suc k) n after) 0 0
    side (yes l) f =
        let e : 48 < last_digit n = omega arith in
        rw (lt-ltb n 10 l) e
    side (no l) f =
        let g : 10 ≤ n = omega arith in
        let some : 0 < n / 10 = omega arith in
        let small : n / 10 < 10 ^ k = omega arith in
        rw (le-ltb n 10 g) (f some small)

pub no_leading_zero : NoLeadingZero
unfolding decimal
no_leading_zero n p h = leads 20 n [] p h

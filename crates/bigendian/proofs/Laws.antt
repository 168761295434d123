-- Laws of big-endian numbers, each once over the width, by induction on it.
-- Assumes nothing.
use Prim.Native.Nat.{ℕ, zero, suc, ◌+◌, ◌-◌, ◌*◌, ◌/◌, ◌%◌, ◌^◌, ◌<◌, ◌≤◌}
use mathlib.Core.Path.{◌≡◌, refl, ◌∙◌}
use mathlib.Core.Logic.{◌⊎◌, inl, inr}
use mathlib.Core.List.{List}
use native.Mathlib.Nat.{add-zero, pow-succ', div-add-mod', div-lt_iff_lt-mul, mul_comm}
use native.Mathlib.Omega.{arith}
use lib.Arith.{digits_lt, digits_div, digits_mod}
use lib.ListN.{length, get_or, set, take, length-set}
use lib.Seq.{get_or-set_same, get_or-set_other, set-get_or, get_or-take}
use borrow.Rule.Slice.PartMut.{put_mid}
use Rattle.std.specs.Int.{w16, w32, to_be_bytes}
use Rattle.copying.proofs.Copies.{put_sets}
use Rattle.bigendian.specs.Numbers.{number, stored, Bytes}

-- ---- reads

-- a number of one, two or four bytes, written out
pub number_1 : (s : List ℕ) (at : ℕ) → number 1 s at ≡ get_or s at 0
unfolding number
number_1 s at = rw (add-zero at) (omega arith)

pub number_2 : (s : List ℕ) (at : ℕ) → number 2 s at ≡ get_or s at 0 * 256 + get_or s (at + 1) 0
unfolding number
number_2 s at = rw (add-zero at) (omega arith)

pub number_4 : (s : List ℕ) (at : ℕ) → number 4 s at ≡ number 2 s at * 65536 + number 2 s (at + 2)
unfolding number
number_4 s at =
    let e : at + 2 + 0 ≡ at + 2 = omega arith in
    let f : at + 2 + 1 ≡ at + 3 = omega arith in
    rw (e, f) (omega arith)

-- a number fits its width
pub number_fits : (k : ℕ) (s : List ℕ) (at : ℕ) → Bytes s → number k s at < 256 ^ k
unfolding number
number_fits zero s at b = omega arith
number_fits (suc k) s at b =
    rw (pow-succ' 256 k, mul_comm 256 (256 ^ k)) (digits_lt (number_fits k s at b) (b (at + k)))

-- the same bytes make the same number
pub number_same : (k : ℕ) (s t : List ℕ) (at to : ℕ) → ((i : ℕ) → i < k → get_or s (at + i) 0 ≡ get_or t (to + i) 0) → number k s at ≡ number k t to
unfolding number
number_same zero s t at to h = refl
number_same (suc k) s t at to h =
    let e : number k s at ≡ number k t to = number_same k s t at to (λ i l. h i (omega arith)) in
    rw (e, h k (omega arith))

-- what lies past a number's bytes does not count
pub number_take : (k n : ℕ) (s : List ℕ) (at : ℕ) → at + k ≤ n → number k (take n s) at ≡ number k s at
number_take k n s at h = number_same k (take n s) s at at (λ i l. get_or-take n s (at + i) 0 (omega arith))

-- ---- stores

-- the bytes of a number of two or four bytes, stored at once
pub stored_2 : (s : List ℕ) (at n : ℕ) (ys : List ℕ) → at + 2 ≤ length s → ys ≡ to_be_bytes w16 n → put_mid at (at + 2 - at) s ys ≡ stored 2 s at n
unfolding stored
stored_2 s at n ys h e =
    let a : at + 0 ≡ at = omega arith in
    let b : at + 1 ≡ suc at = omega arith in
    put_sets s at 2 (to_be_bytes w16 n) h refl e ∙ rw (a, b)

pub stored_4 : (s : List ℕ) (at n : ℕ) (ys : List ℕ) → at + 4 ≤ length s → ys ≡ to_be_bytes w32 n → put_mid at (at + 4 - at) s ys ≡ stored 4 s at n
unfolding stored
stored_4 s at n ys h e =
    let a : at + 0 ≡ at = omega arith in
    let b : at + 1 ≡ suc at = omega arith in
    let c : at + 2 ≡ suc (suc at) = omega arith in
    let d : at + 3 ≡ suc (suc (suc at)) = omega arith in
    let second : n / 256 / 256 ≡ n / 65536 = omega arith in
    let first : n / 65536 / 256 ≡ n / 16777216 = omega arith in
    put_sets s at 4 (to_be_bytes w32 n) h refl e ∙ rw (a, b, c, d, second, first)

pub stored_length : (k : ℕ) (s : List ℕ) (at n : ℕ) → length (stored k s at n) ≡ length s
unfolding stored
stored_length zero s at n = refl
stored_length (suc k) s at n = length-set (stored k s at (n / 256)) (at + k) (n % 256) ∙ stored_length k s at (n / 256)

-- a byte before or after the stored ones is what it was
pub stored_elsewhere : (k : ℕ) (s : List ℕ) (at n i : ℕ) → (i < at) ⊎ (at + k ≤ i) → get_or (stored k s at n) i 0 ≡ get_or s i 0
unfolding stored
stored_elsewhere zero s at n i h = refl
stored_elsewhere (suc k) s at n i (inl h) =
    get_or-set_other (stored k s at (n / 256)) (at + k) i (n % 256) 0 (λ e. omega arith) ∙ stored_elsewhere k s at (n / 256) i (inl h)
stored_elsewhere (suc k) s at n i (inr h) =
    get_or-set_other (stored k s at (n / 256)) (at + k) i (n % 256) 0 (λ e. omega arith) ∙ stored_elsewhere k s at (n / 256) i (inr (omega arith))

-- a number that shares no byte with a store is what it was
pub number_elsewhere : (j k : ℕ) (s : List ℕ) (at to n : ℕ) → (to + j ≤ at) ⊎ (at + k ≤ to) → number j (stored k s at n) to ≡ number j s to
number_elsewhere j k s at to n (inl h) = number_same j (stored k s at n) s to to (λ i l. stored_elsewhere k s at n (to + i) (inl (omega arith)))
number_elsewhere j k s at to n (inr h) = number_same j (stored k s at n) s to to (λ i l. stored_elsewhere k s at n (to + i) (inr (omega arith)))

-- a store, then a read
pub number_stored : (k : ℕ) (s : List ℕ) (at n : ℕ) → at + k ≤ length s → n < 256 ^ k → number k (stored k s at n) at ≡ n
unfolding number stored
number_stored zero s at n h l = omega arith
number_stored (suc k) s at n h l =
    let t : List ℕ = stored k s at (n / 256) in
    let before : number k (set t (at + k) (n % 256)) at ≡ number k t at =
    number_same k (set t (at + k) (n % 256)) t at at (λ i g. get_or-set_other t (at + k) (at + i) (n % 256) 0 (λ e. omega arith)) in
    let high : number k t at ≡ n / 256 =
    number_stored k s at (n / 256) (omega arith) ((div-lt_iff_lt-mul (omega arith)).1 (rw (pow-succ' 256 k, mul_comm 256 (256 ^ k)) at l)) in
    let low : get_or (set t (at + k) (n % 256)) (at + k) 0 ≡ n % 256 =
    get_or-set_same t (at + k) (n % 256) 0 (rw (stored_length k s at (n / 256)) (omega arith)) in
    rw (before, high, low) (div-add-mod' n 256)

-- a read, then a store: the bytes are what they were
pub stored_number : (k : ℕ) (s : List ℕ) (at : ℕ) → Bytes s → stored k s at (number k s at) ≡ s
unfolding number stored
stored_number zero s at b = refl
stored_number (suc k) s at b =
    rw (digits_div (number k s at) (b (at + k)), digits_mod (number k s at) (b (at + k)), stored_number k s at b)
    (set-get_or s (at + k) 0)

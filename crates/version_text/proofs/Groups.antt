-- Laws of a digit group: where it ends, and what a loop that reads it has in hand. Both groups of a number are read by the same laws.
-- Assumes nothing.
use Prim.Native.Nat.{ℕ, zero, suc, ◌+◌, ◌-◌, ◌<◌, ◌≤◌, min}
use native.Mathlib.Omega.{arith}
use native.Mathlib.Numerals.{add-one}
use mathlib.Core.Path.{◌≡◌, refl, ap, ◌∙◌}
use mathlib.Core.Bool.{true, false, cond}
use mathlib.Core.List.{List, [], ◌∷◌}
use mathlib.Mathlib.Data.Bool.Basic.{eq-true_of_not-eq-false, eq-false_of_not-eq-true}
use lib.ListN.{length, drop}
use lib.Seq.{drop-nil}
use Rattle.characters.specs.Strings.{char}
use Rattle.characters.proofs.Laws.{char_within}
use Rattle.characters.specs.Digits.{digit, longer}
use Rattle.characters.proofs.Digits.{digit_is}
use Rattle.version_text.specs.Versions.{digits, group_end, figure, group_figure}

-- a digit stands within the text, and so does a period
pub digit_within : (l : List ℕ) (i : ℕ) → digit (char l i) ≡ true → i < length l
digit_within l i e = char_within l i (omega (arith, ((digit_is (char l i)).0 e).0))

pub period_within : (l : List ℕ) (i : ℕ) → char l i ≡ 46 → i < length l
period_within l i e = char_within l i (omega arith)

-- the digits that start at a place, by its character
digits_at : (l : List ℕ) (i : ℕ) → digits (drop i l) ≡ cond (digit (char l i)) (suc (digits (drop (suc i) l))) 0
unfolding digits digit char
digits_at [] i = rw (drop-nil i)
digits_at (c ∷ cs) zero = refl
digits_at (c ∷ cs) (suc i) = digits_at cs i

pub digits_more : (l : List ℕ) (i : ℕ) → digit (char l i) ≡ true → digits (drop i l) ≡ suc (digits (drop (suc i) l))
digits_more l i e = rw (digits_at l i, e)

pub digits_none : (l : List ℕ) (i : ℕ) → digit (char l i) ≡ false → digits (drop i l) ≡ 0
digits_none l i e = rw (digits_at l i, e)

-- ---- reading a group

-- from s up to j digits are read, the rest of the group starts at j, and a is the figure so far, held at 65,535
pub record Reading (l : List ℕ) (s j a : ℕ) : Type 0 where
  pub low : s ≤ j
  pub high : j ≤ length l
  pub left : group_end l j ≡ group_end l s
  pub held : a ≡ min 65535 (figure l s (j - s))

pub reading_none : (l : List ℕ) (s : ℕ) → s ≤ length l → Reading l s s 0
unfolding figure
reading_none l s h =
    let e : s - s ≡ 0 = omega arith in
    record { low = omega arith; high = h; left = refl; held = rw e }

pub reading_more : (l : List ℕ) (s j a : ℕ) → digit (char l j) ≡ true → Reading l s j a → Reading l s (j + 1) (min 65535 (longer a (char l j)))
unfolding group_end figure
reading_more l s j a d r =
    let e : (j + 1) - s ≡ suc (j - s) = omega arith in
    let f : s + (j - s) ≡ j = omega arith in
    record {
      low = omega arith;
      high = omega (arith, digit_within l j d);
      left = rw (add-one) (omega (arith, digits_more l j d));
      held = rw (e, f) (omega arith);
    }

-- the group that starts at s is read: it ends at j, and a is its figure, held at 65,535
pub record Read (l : List ℕ) (s j a : ℕ) : Type 0 where
  pub ends : j ≡ group_end l s
  pub held : a ≡ min 65535 (group_figure l s)

pub reading_end : (l : List ℕ) (s j a : ℕ) → digit (char l j) ≡ false → Reading l s j a → Read l s j a
unfolding group_end group_figure
reading_end l s j a d r =
    let e : j ≡ s + digits (drop s l) = omega (arith, digits_none l j d, r.left) in
    let f : j - s ≡ digits (drop s l) = omega arith in
    record { ends = e; held = rw (← f) r.held }

-- ---- the digits that start at a place: each is one, none follows them, and no other number of digits is so

digit_there : (l : List ℕ) (i : ℕ) → 0 < digits (drop i l) → digit (char l i) ≡ true
digit_there l i h = eq-true_of_not-eq-false (λ d. omega (arith, digits_none l i d))

pub digits_each : (m : ℕ) (l : List ℕ) (i : ℕ) → m < digits (drop i l) → digit (char l (i + m)) ≡ true
digits_each zero l i h = let e : i + 0 ≡ i = omega arith in rw e (digit_there l i h)
digits_each (suc m) l i h =
    let e : i + suc m ≡ suc i + m = omega arith in
    rw e (digits_each m l (suc i) (omega (arith, digits_more l i (digit_there l i (omega arith)))))

pub digits_end : (n : ℕ) (l : List ℕ) (i : ℕ) → digits (drop i l) ≡ n → digit (char l (i + n)) ≡ false
digits_end zero l i h =
    let e : i + 0 ≡ i = omega arith in
    rw e (eq-false_of_not-eq-true (λ d. omega (arith, digits_more l i d)))
digits_end (suc n) l i h =
    let e : i + suc n ≡ suc i + n = omega arith in
    rw e (digits_end n l (suc i) (omega (arith, digits_more l i (digit_there l i (omega arith)))))

pub digits_are : (n : ℕ) (l : List ℕ) (i : ℕ) → ((m : ℕ) → m < n → digit (char l (i + m)) ≡ true) → digit (char l (i + n)) ≡ false → digits (drop i l) ≡ n
digits_are zero l i h g =
    let e : i + 0 ≡ i = omega arith in
    digits_none l i (rw e at g)
digits_are (suc n) l i h g =
    let e : i + 0 ≡ i = omega arith in
    let s : (m : ℕ) → i + suc m ≡ suc i + m = λ m. omega arith in
    digits_more l i (rw e at (h 0 (omega arith)))
    ∙ ap suc (digits_are n l (suc i) (λ m q. rw (s m) at (h (suc m) (omega arith))) (rw (s n) at g))

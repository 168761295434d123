-- A pass over both tables: each step passes the least key that is left, and lists it where it is one of the three.
-- Assumes nothing.
use Prim.Native.Nat.{ℕ, zero, suc, ◌+◌, ◌*◌, ◌≤◌, ◌<◌}
use mathlib.Core.Path.{◌≡◌, refl, sym, ap, ◌∙◌}
use mathlib.Core.Logic.{◌⊎◌, inl, inr, ⊎_elim}
use mathlib.Core.Bool.{Bool, true, false, false≢true}
use mathlib.Core.Option.{Option, none, some}
use mathlib.Core.List.{List, [], ◌++◌}
use native.Mathlib.Nat.{not-suc-le-zero, eq-or-lt_of_le}
use native.Mathlib.Numerals.{add-one}
use native.Mathlib.Decide.{dec_lt, ℕ_discrete}
use native.Mathlib.Omega.{arith}
use lib.ListN.{length, length-append}
use Rattle.std.specs.Prelude.{Option as Maybe, Some, None}
use Rattle.outcomes.specs.Firsts.{when}
use Rattle.name_layout.specs.Layout.{count, bytes_of}
use Rattle.name.proofs.Acceptances.{accepted_framed}
use Rattle.name_search.proofs.Finds.{ordered, record_numbered}
use Rattle.name_search.proofs.Halvings.{Rising, scan, scan_none, scan_found}
use Rattle.comparing.specs.Lists.{entry_of, list_below}
use Rattle.comparing.proofs.Lists.{no_entry, one_at_most, skip, shorter, whole}
use Rattle.same_bytes.specs.Same.{same}
use Rattle.name_compare.specs.declared.Which.{Which}
use Rattle.name_compare.specs.declared.Which.TheVariants.{OnlyLeft, OnlyRight, OtherBytes}
use Rattle.name_compare.specs.Differences.{Difference, left_only, right_only, in_both, which_of, entry_for, key_numbered, key_count, difference_at, differences}
use Rattle.name_compare.specs.Steps.{key_at, Cut, Reached, Both, passed}
use Rattle.name_compare.proofs.KeyNumbers.{by_number}

-- ---- one table

pub cut_start : (key : ℕ → ℕ) (n : ℕ) → Cut key n 0 0
cut_start key n = record { below = λ x h. absurd (not-suc-le-zero h); from = λ x h g. omega arith }

module _ (key : ℕ → ℕ) {n i b : ℕ} (up : Rising key n) (c : Cut key n i b) where
  -- from the next key on all are at least as large
  after : (k : ℕ) → (i < n → k < key i) → (x : ℕ) → i ≤ x → x < n → k < key x
  unfolding Rising
  after k g x q l = ⊎_elim (λ s. let z : key i ≡ key x = ap key s in omega (arith, g (omega arith))) (λ s. omega (arith, up i x s l, g (omega arith))) (eq-or-lt_of_le q)

  -- a key that is not passed and below the next is not there
  pub absent : (k : ℕ) → b ≤ k → (i < n → k < key i) → scan key k n ≡ none
  absent k h g = scan_none key k n (λ x l e. side x l e (dec_lt x i))
    where
      side : (x : ℕ) → x < n → key x ≡ k → Dec (x < i) → ⊥
      side x l e (yes q) = omega (arith, c.below x q)
      side x l e (no q) = omega (arith, after k g x (omega arith) l)

  -- the bound moves past such a key
  pub stays : (k : ℕ) → b ≤ k → (i < n → k < key i) → Cut key n i (k + 1)
  stays k h g = record { below = λ x q. omega (arith, c.below x q); from = λ x q l. omega (arith, after k g x q l) }

  -- and past the next key itself
  pub passes : i < n → Cut key n (i + 1) (key i + 1)
  unfolding Rising
  passes h = record {
    below = λ x q. ⊎_elim (λ s. let z : key x ≡ key i = ap key s in omega arith) (λ s. omega (arith, up x i s h)) (eq-or-lt_of_le {n = x} {m = i} (omega arith));
    from = λ x q l. omega (arith, up i x (omega arith) l);
  }

-- ---- what a step lists

pub passes_left : (x : ℕ) → entry_of (entry_for (key_numbered x) (some left_only)) ≡ passed x (Some OnlyLeft)
unfolding entry_of entry_for passed
passes_left x = refl

pub passes_right : (x : ℕ) → entry_of (entry_for (key_numbered x) (some right_only)) ≡ passed x (Some OnlyRight)
unfolding entry_of entry_for passed
passes_right x = refl

pub passes_same : (x : ℕ) (t : Bool) → t ≡ true → entry_of (entry_for (key_numbered x) (in_both t)) ≡ passed x None
unfolding in_both when entry_of entry_for passed
passes_same x true e = refl
passes_same x false e = absurd (false≢true e)

pub passes_other : (x : ℕ) (t : Bool) → t ≡ false → entry_of (entry_for (key_numbered x) (in_both t)) ≡ passed x (Some OtherBytes)
unfolding in_both when entry_of entry_for passed
passes_other x false e = refl
passes_other x true e = absurd (false≢true (sym e))

-- ---- both

module _ (left right : List ℕ) (k : Both left right) where
  up_left : Rising (key_at left) (count left)
  up_left = ordered left k.left_bytes k.left_accepted

  up_right : Rising (key_at right) (count right)
  up_right = ordered right k.right_bytes k.right_accepted

  -- what a key is, from the records that have it
  differs_at : (x : ℕ) → x < key_count → {a b : Option ℕ} → record_numbered left x ≡ a → record_numbered right x ≡ b →
      difference_at left right x ≡ entry_for (key_numbered x) (which_of left right a b)
  differs_at x h e f = by_number left right k.left_bytes k.right_bytes x h ∙ rw (e, f)

  module _ {i j : ℕ} {out : List Difference} (r : Reached left right i j out) where
    on_left_lem : (x : ℕ) → r.bound ≤ x → (i < count left → x < key_at left i) → record_numbered left x ≡ none
    unfolding record_numbered
    on_left_lem x h f = absent (key_at left) up_left r.on_left x h f

    on_right_lem : (x : ℕ) → r.bound ≤ x → (j < count right → x < key_at right j) → record_numbered right x ≡ none
    unfolding record_numbered
    on_right_lem x h f = absent (key_at right) up_right r.on_right x h f

    at_left : i < count left → record_numbered left (key_at left i) ≡ some i
    unfolding record_numbered
    at_left h = scan_found (key_at left) (key_at left i) i (count left) h refl up_left

    at_right : (x : ℕ) → j < count right → key_at right j ≡ x → record_numbered right x ≡ some j
    unfolding record_numbered
    at_right x h e = scan_found (key_at right) x j (count right) h e up_right

    -- a key that stands on neither side is none of the three
    neither : (x : ℕ) → x < key_count → r.bound ≤ x → (i < count left → x < key_at left i) → (j < count right → x < key_at right j) → difference_at left right x ≡ none
    unfolding which_of entry_for
    neither x m h f g = differs_at x m (on_left_lem x h f) (on_right_lem x h g)

    -- up to the least key that is left nothing is listed
    least : (x : ℕ) → x < key_count → r.bound ≤ x → (i < count left → x ≤ key_at left i) → (j < count right → x ≤ key_at right j) →
        {d : List Difference} → entry_of (difference_at left right x) ≡ d → out ++ d ≡ list_below (difference_at left right) (x + 1)
    unfolding list_below
    least x m h f g e =
        let s : list_below (difference_at left right) x ≡ list_below (difference_at left right) r.bound =
        skip (difference_at left right) r.bound x h (λ y l q. neither y (omega arith) l (λ t. omega (arith, f t)) (λ t. omega (arith, g t))) in
        rw (add-one, s, e, r.is)

    pub left_only_lem : key_at left i < key_count → i < count left → (j < count right → key_at left i < key_at right j) → Reached left right (i + 1) j (out ++ passed (key_at left i) (Some OnlyLeft))
    unfolding which_of
    left_only_lem m h g =
        let x = key_at left i in
        let b = r.on_left.from i (omega arith) h in
        let d = differs_at x m (at_left h) (on_right_lem x b g) in
        record {
          bound = x + 1;
          most = omega arith;
          on_left = passes (key_at left) up_left r.on_left h;
          on_right = stays (key_at right) up_right r.on_right x b g;
          is = least x m b (λ q. omega arith) (λ q. omega (arith, g q)) (ap entry_of d ∙ passes_left x);
        }

    pub right_only_lem : key_at right j < key_count → j < count right → (i < count left → key_at right j < key_at left i) →
        Reached left right i (j + 1) (out ++ passed (key_at right j) (Some OnlyRight))
    unfolding which_of
    right_only_lem m h g =
        let x = key_at right j in
        let b = r.on_right.from j (omega arith) h in
        let d = differs_at x m (on_left_lem x b g) (at_right x h refl) in
        record {
          bound = x + 1;
          most = omega arith;
          on_left = stays (key_at left) up_left r.on_left x b g;
          on_right = passes (key_at right) up_right r.on_right h;
          is = least x m b (λ q. omega (arith, g q)) (λ q. omega arith) (ap entry_of d ∙ passes_right x);
        }

    pub in_both_lem : key_at left i < key_count → i < count left → j < count right → key_at right j ≡ key_at left i →
        (w : Maybe Which) → entry_of (entry_for (key_numbered (key_at left i)) (in_both (same (bytes_of left i) (bytes_of right j)))) ≡ passed (key_at left i) w →
        Reached left right (i + 1) (j + 1) (out ++ passed (key_at left i) w)
    unfolding which_of
    in_both_lem m h g e w s =
        let x = key_at left i in
        let b = r.on_left.from i (omega arith) h in
        let d = differs_at x m (at_left h) (at_right x g e) in
        record {
          bound = x + 1;
          most = omega arith;
          on_left = passes (key_at left) up_left r.on_left h;
          on_right = rw e at (passes (key_at right) up_right r.on_right g);
          is = least x m b (λ q. omega arith) (λ q. omega arith) (ap entry_of d ∙ s);
        }

    -- there is never more than the whole list
    pub at_most : length out ≤ length (differences left right)
    unfolding differences
    at_most = rw r.is (shorter (difference_at left right) r.bound key_count r.most)

    -- as many as there are: it is the whole list
    pub all_of_them : length out ≡ length (differences left right) → out ≡ differences left right
    unfolding differences
    all_of_them e = r.is ∙ whole (difference_at left right) r.bound key_count r.most (sym (ap length r.is) ∙ e)

    -- all records are passed: all is listed
    pub finished : count left ≤ i → count right ≤ j → out ≡ differences left right
    unfolding differences
    finished h g =
        r.is ∙ sym (skip (difference_at left right) r.bound key_count r.most (λ y l m. neither y m l (λ q. absurd (omega arith)) (λ q. absurd (omega arith))))

    -- fewer than there are: not all records are passed
    pub unfinished : i ≤ count left → j ≤ count right → length out < length (differences left right) → i + j < count left + count right
    unfinished h g l = at (dec_lt (i + j) (count left + count right))
      where
        at : Dec (i + j < count left + count right) → i + j < count left + count right
        at (yes q) = q
        at (no q) = absurd (omega (arith, ap length (finished (omega arith) (omega arith))))

pub started : (left right : List ℕ) → Reached left right 0 0 []
unfolding list_below
started left right = record { bound = 0; most = omega arith; on_left = cut_start _ _; on_right = cut_start _ _; is = refl }

-- the records lie within their tables, so their numbers have a sum
pub inside : {left right : List ℕ} → Both left right → (6 + 12 * count left ≤ length left) × (6 + 12 * count right ≤ length right)
inside k = ((accepted_framed _ k.left_accepted).records, (accepted_framed _ k.right_accepted).records)

-- ---- how many there are at most

-- a table's cut below the next number: one key more, or the same
next_cut : (key : ℕ → ℕ) (n : ℕ) → Rising key n → (i b : ℕ) → i ≤ n → Cut key n i b
    → (m : ℕ) × (m ≤ n) × Cut key n m (b + 1) × ((m ≡ i + 1) ⊎ ((m ≡ i) × (i < n → b < key i)))
next_cut key n up i b l c = at (dec_lt i n) (ℕ_discrete (key i) b)
  where
    at : Dec (i < n) → Dec (key i ≡ b) → (m : ℕ) × (m ≤ n) × Cut key n m (b + 1) × ((m ≡ i + 1) ⊎ ((m ≡ i) × (i < n → b < key i)))
    at (yes h) (yes e) = (i + 1, omega arith, rw e at (passes key up c h), inl refl)
    at (yes h) (no e) = let g : i < n → b < key i = λ q. omega (arith, c.from i (omega arith) h) in (i, l, stays key up c b (omega arith) g, inr (refl, g))
    at (no h) e = let g : i < n → b < key i = λ q. absurd (h q) in (i, l, stays key up c b (omega arith) g, inr (refl, g))

-- of the keys below a number no more differ than records are passed
record Counted (left right : List ℕ) (b : ℕ) : Type 0 where
  pub i : ℕ
  pub j : ℕ
  pub in_left : i ≤ count left
  pub in_right : j ≤ count right
  pub on_left : Cut (key_at left) (count left) i b
  pub on_right : Cut (key_at right) (count right) j b
  pub most : length (list_below (difference_at left right) b) ≤ i + j

module _ (left right : List ℕ) (k : Both left right) where
  counted_next : (b : ℕ) → b < key_count → Counted left right b → Counted left right (b + 1)
  unfolding list_below
  counted_next b h c =
      let p = next_cut (key_at left) (count left) (up_left left right k) c.i b c.in_left c.on_left in
      let q = next_cut (key_at right) (count right) (up_right left right k) c.j b c.in_right c.on_right in
      record { i = p.0; j = q.0; in_left = p.1; in_right = q.1; on_left = p.2; on_right = q.2; most = rw (add-one, length-append) (at p.0 q.0 p.3 q.3) }
    where
      f : ℕ → Option Difference
      f = difference_at left right

      r : Reached left right c.i c.j (list_below f b)
      r = record { bound = b; most = omega arith; on_left = c.on_left; on_right = c.on_right; is = refl }

      at : (m n : ℕ) → (m ≡ c.i + 1) ⊎ ((m ≡ c.i) × (c.i < count left → b < key_at left c.i)) → (n ≡ c.j + 1) ⊎ ((n ≡ c.j) × (c.j < count right → b < key_at right c.j))
          → length (list_below f b) + length (entry_of (f b)) ≤ m + n
      at m n (inl x) (inl y) = omega (arith, c.most, one_at_most (f b))
      at m n (inl x) (inr y) = omega (arith, c.most, one_at_most (f b), y.0)
      at m n (inr x) (inl y) = omega (arith, c.most, one_at_most (f b), x.0)
      at m n (inr x) (inr y) =
          let e : length (entry_of (f b)) ≡ 0 = rw (no_entry (neither left right k r b h (omega arith) x.1 y.1)) in
          omega (arith, c.most, x.0, y.0)

  counted : (b : ℕ) → b ≤ key_count → Counted left right b
  unfolding list_below
  counted zero h = record { i = 0; j = 0; in_left = omega arith; in_right = omega arith; on_left = cut_start _ _; on_right = cut_start _ _; most = omega arith }
  counted (suc b) h = rw (← add-one) (counted_next b h (counted b (omega arith)))

  -- as many rows as both tables have records are enough
  pub enough_rows : length (differences left right) ≤ count left + count right
  unfolding differences
  enough_rows = let c = counted key_count (omega arith) in omega (arith, c.most, c.in_left, c.in_right)

-- What the tests of form and of difference decide, part by part; an allowed code is at most 126, so its high byte is 0.
-- Assumes nothing.
use Prim.Native.Nat.{ℕ, ◌*◌, ◌/◌, ◌%◌, ◌≤◌, ◌<◌}
use mathlib.Core.Path.{◌≡◌, refl}
use mathlib.Core.Bool.{Bool, true, false}
use mathlib.Core.Option.{none, some}
use mathlib.Core.List.{List}
use mathlib.Core.Logic.{◌↔◌}
use native.Mathlib.Omega.{arith}
use lib.ListN.{length, get_or}
use lib.Seq.{ext_get_or}
use borrow.Author.Tests.{eqb-false, ne_eqb, not-false}
use Rattle.outcomes.specs.Firsts.{first_among}
use Rattle.outcomes.specs.Outcomes.{bare}
use Rattle.outcomes.proofs.Laws.{when_none, when_some, then_none, passed, here, past, first_all, Only, only_when, only_then, only_first}
use Rattle.outcomes.proofs.Tests.{equal, unequal, not_below, or_false}
use Rattle.characters.specs.Strings.{characters, char, odd}
use Rattle.characters.proofs.Laws.{length_pairs, char_pairs}
use Rattle.charset.specs.Allowed.{Allowed}
use Rattle.charset.proofs.Laws.{allowed_is}
use Rattle.name_answers.specs.Forms.{too_few, is_too_many, wrong_count, other_at, ill_formed, differ_at, differ}
use Rattle.name_answers.specs.Names.{either_ill}
use Rattle.name_answers.specs.WellFormed.{WellFormed}

-- ---- the form

some_there : (n : ℕ) → (too_few n ≡ false) ↔ (1 ≤ n)
unfolding too_few
some_there n = not_below n 1

no_more : (n : ℕ) → (is_too_many n ≡ false) ↔ (n ≤ 63)
unfolding is_too_many
no_more n = not_below 63 n

right_count : (n : ℕ) → (wrong_count n ≡ false) ↔ ((1 ≤ n) × (n ≤ 63))
unfolding wrong_count
right_count n = (
  λ e. let p = (or_false (too_few n) (is_too_many n)).0 e in ((some_there n).0 p.0, (no_more n).0 p.1),
  λ p. (or_false (too_few n) (is_too_many n)).1 ((some_there n).1 p.0, (no_more n).1 p.1),
)

no_other : (l : List ℕ) (k : ℕ) → (other_at l k ≡ none) ↔ Allowed (char l k)
unfolding other_at
no_other l k = (
  λ e. (allowed_is (char l k)).0 (not-false _ ((when_none _ _).0 e)),
  λ a. (when_none _ _).1 (simp ((allowed_is (char l k)).1 a)),
)

even_length : (wide : Bool) (bytes : List ℕ) → (odd wide bytes ≡ false) ↔ (wide ≡ true → length bytes % 2 ≡ 0)
unfolding odd
even_length false bytes = (λ e w. let z : ◌≡◌ {A = ℕ} 0 1 = cc in absurd (omega arith), λ f. refl)
even_length true bytes = (λ e w. omega (arith, eqb-false (length bytes % 2) 1 e), λ f. ne_eqb (length bytes % 2) 1 (λ e. omega (arith, f refl)))

-- the high byte of an allowed two-byte character
high_byte : (bytes : List ℕ) (k : ℕ) → k < length bytes / 2 → Allowed (char (characters true bytes) k) → get_or bytes (k * 2) 0 ≡ 0
high_byte bytes k h a = omega (arith, a.most, char_pairs bytes k h)

module _ (wide : Bool) (bytes : List ℕ) where
  pub well_formed : (ill_formed wide bytes ≡ none) ↔ WellFormed wide bytes
  unfolding ill_formed
  well_formed = (
    (λ e.
        let p = (passed _ _ _).0 e in
        let q = (passed _ _ _).0 p.1 in
        let n = (right_count (length (characters wide bytes))).0 q.0 in
        let v = (even_length wide bytes).0 p.0 in
        let c : (k : ℕ) → k < length (characters wide bytes) → Allowed (char (characters wide bytes) k) = λ k h. (no_other _ k).0 ((first_all _ _).0 q.1 k h) in
        record { least = n.0; most = n.1; codes = c; even = v; high = high wide c v }),
    λ f.
        let c = (first_all (other_at (characters wide bytes)) (length (characters wide bytes))).1 (λ k h. (no_other _ k).1 (f.codes k h)) in
        (passed _ _ _).1 ((even_length wide bytes).1 f.even, (passed _ _ _).1 ((right_count _).1 (f.least, f.most), c)),
  )
    where
      high : (w : Bool) → ((k : ℕ) → k < length (characters w bytes) → Allowed (char (characters w bytes) k))
          → (w ≡ true → length bytes % 2 ≡ 0) → w ≡ true → (k : ℕ) → k * 2 < length bytes → get_or bytes (k * 2) 0 ≡ 0
      high false c v w k h = let z : ◌≡◌ {A = ℕ} 0 1 = cc in absurd (omega arith)
      high true c v w k h =
          let even : length bytes % 2 ≡ 0 = v w in
          let inside : k < length bytes / 2 = omega arith in
          high_byte bytes k inside (c k (omega (arith, length_pairs bytes)))

  -- it knows 23 alone
  ill_23 : Only (λ r. r ≡ bare 23) (ill_formed wide bytes)
  unfolding ill_formed other_at
  ill_23 =
      only_then _ _ _ (only_when _ _ _ refl) (only_then _ _ _ (only_when _ _ _ refl) (only_first _ _ _ (λ k. only_when _ _ _ refl)))

pub both_formed : (x y : List ℕ) → (either_ill x y ≡ none) ↔ (WellFormed false x × WellFormed true y)
both_formed x y = (
  λ e. let p = (then_none _ _).0 e in ((well_formed false x).0 p.0, (well_formed true y).0 p.1),
  λ p. (then_none _ _).1 ((well_formed false x).1 p.0, (well_formed true y).1 p.1),
)

pub either_23 : (x y : List ℕ) → Only (λ r. r ≡ bare 23) (either_ill x y)
either_23 x y = only_then _ _ _ (ill_23 false x) (ill_23 true y)

-- ---- the difference

module _ (a b : List ℕ) where
  pub same_here : (k : ℕ) → (differ_at a b k ≡ none) ↔ (char a k ≡ char b k)
  unfolding differ_at
  same_here k = (λ e. (equal _ _).0 (not-false _ ((when_none _ _).0 e)), λ e. (when_none _ _).1 (simp ((equal (char a k) (char b k)).1 e)))

  pub differ_here : (k : ℕ) → (char a k ≡ char b k → ⊥) → differ_at a b k ≡ some (bare 24)
  unfolding differ_at
  differ_here k h = (when_some _ _ _).1 (simp ((unequal (char a k) (char b k)).1 h), refl)

  pub differ_count : (length a ≡ length b → ⊥) → differ a b ≡ some (bare 24)
  unfolding differ
  differ_count h = here _ _ _ (simp ((unequal (length a) (length b)).1 h))

  pub differ_sized : length a ≡ length b → differ a b ≡ first_among (differ_at a b) (length b)
  unfolding differ
  differ_sized e = past _ _ _ (simp ((equal (length a) (length b)).1 e))

  pub same_characters : (differ a b ≡ none) ↔ (a ≡ b)
  unfolding differ char
  same_characters = (
    (λ e.
        let p = (passed _ _ _).0 e in
        let n : length a ≡ length b = (equal _ _).0 (not-false _ p.0) in
        ext_get_or 0 a b n (λ k h. (same_here k).0 ((first_all _ (length b)).0 p.1 k (omega arith)))),
    λ e. (passed _ _ _).1 (rw e (simp ((equal (length b) (length b)).1 refl)), (first_all _ (length b)).1 (λ k h. (same_here k).1 (rw e))),
  )

  -- it knows 24 alone
  pub differ_24 : Only (λ r. r ≡ bare 24) (differ a b)
  unfolding differ differ_at
  differ_24 = only_then _ _ _ (only_when _ _ _ refl) (only_first _ _ _ (λ k. only_when _ _ _ refl))

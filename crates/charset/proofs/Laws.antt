-- What the test decides: the proposition, by going through the list of reserved codes; and how many codes it leaves, and which, by computing it at each.
-- Assumes nothing.
use Prim.Native.Nat.{ℕ, zero, suc, ◌+◌, ◌<◌}
use native.Mathlib.Numerals.{add-one}
use native.Mathlib.Nat.{not-suc-le-zero, le_of_suc-le-suc, eq-or-lt_of_le}
use native.Mathlib.Omega.{arith}
use mathlib.Core.Path.{◌≡◌, refl}
use mathlib.Core.Bool.{Bool, true, false, cond, true≢false, and-eq-true_iff}
use mathlib.Core.List.{List, [], ◌∷◌, ◌++◌, cons≢nil}
use mathlib.Core.Logic.{◌↔◌, ⊎_elim}
use mathlib.Mathlib.Data.Bool.Basic.{or-eq-false-eq-eq-false-and-eq-false}
use lib.Dec.{eqb}
use borrow.Author.Tests.{le-leb, leb-true, ne_eqb, eqb-false, not-true}
use Rattle.characters.specs.Texts.{codes}
use Rattle.charset.specs.Allowed.{reserved, one_of, allowed, allowed_below, NoneOf, Allowed}

-- "which leaves 84 characters"
pub eighty_four : allowed_below 256 ≡ 84
unfolding allowed_below allowed
eighty_four = refl

-- the ten that are left out, by their codes
pub reserved_are : reserved ≡ 91 ∷ 93 ∷ 40 ∷ 41 ∷ 123 ∷ 125 ∷ 60 ∷ 62 ∷ 47 ∷ 37 ∷ []
reserved_are = refl

-- codes, with one more at their end where a test holds
abbrev pub behind : List ℕ → Bool → ℕ → List ℕ
behind cs true c = cs ++ (c ∷ [])
behind cs false c = cs

-- the codes below a number at which a test holds
abbrev pub codes_below : (ℕ → Bool) → ℕ → List ℕ
codes_below test zero = []
codes_below test (suc n) = behind (codes_below test n) (test n) n

-- the 84, written out
pub allowed_are : codes_below allowed 256 ≡ codes "!\"#$&'*+,-.0123456789:;=?@ABCDEFGHIJKLMNOPQRSTUVWXYZ\\^_`abcdefghijklmnopqrstuvwxyz|~"
unfolding allowed
allowed_are = refl

-- one code more
pub allowed_more : (n : ℕ) → allowed_below (n + 1) ≡ cond (allowed n) 1 0 + allowed_below n
unfolding allowed_below
allowed_more n = rw add-one

-- ---- there is no code at which a test holds

behind_none : (cs : List ℕ) (b : Bool) (c : ℕ) → (behind cs b c ≡ []) ↔ ((cs ≡ []) × (b ≡ false))
behind_none cs false c = (λ e. (e, refl), λ p. p.0)
behind_none [] true c = (λ e. absurd (cons≢nil e), λ p. absurd (true≢false p.1))
behind_none (x ∷ xs) true c = (λ e. absurd (cons≢nil e), λ p. absurd (true≢false p.1))

pub none_below : (test : ℕ → Bool) (n : ℕ) → (codes_below test n ≡ []) ↔ ((c : ℕ) → c < n → test c ≡ false)
none_below test zero = (λ e c h. absurd (not-suc-le-zero h), λ s. refl)
none_below test (suc n) = (
  λ e c h.
      let p = (behind_none (codes_below test n) (test n) n).0 e in
      ⊎_elim (λ l. rw l p.1) (λ l. (none_below test n).0 p.0 c l) (eq-or-lt_of_le (le_of_suc-le-suc h)),
  λ s. (behind_none (codes_below test n) (test n) n).1 ((none_below test n).1 (λ c h. s c (omega arith)), s n (omega arith)),
)

-- ---- the proposition

none_of : (xs : List ℕ) (c : ℕ) → one_of xs c ≡ false → NoneOf xs c
none_of [] c e = tt
none_of (x ∷ xs) c e =
    let p = (or-eq-false-eq-eq-false-and-eq-false (eqb c x) (one_of xs c)).0 e in
    (eqb-false c x p.0, none_of xs c p.1)

one_of_lem : (xs : List ℕ) (c : ℕ) → NoneOf xs c → one_of xs c ≡ false
one_of_lem [] c n = refl
one_of_lem (x ∷ xs) c n = rw (ne_eqb c x n.0) (one_of_lem xs c n.1)

pub allowed_is : (c : ℕ) → (allowed c ≡ true) ↔ Allowed c
unfolding allowed
allowed_is c = (holds, passes)
  where
    holds : allowed c ≡ true → Allowed c
    holds e =
        let p = (and-eq-true_iff _ _).0 e in
        let q = (and-eq-true_iff _ _).0 p.0 in
        record { least = leb-true _ _ q.0; most = leb-true _ _ q.1; other = none_of reserved _ (not-true _ p.1) }

    passes : Allowed c → allowed c ≡ true
    passes a = rw (le-leb _ _ a.least, le-leb _ _ a.most, one_of_lem reserved _ a.other)

-- Facts of the levels and of the sizes, each shown once: those of a level by its six names, those of a size by the four pieces of its definition.
-- Assumes nothing.
use Prim.Native.Nat.{ℕ, zero, suc, ◌<◌, ◌≤◌}
use mathlib.Core.Path.{◌≡◌, refl, sym, ap, ◌∙◌}
use mathlib.Core.Bool.{Bool, true, false, cond}
use mathlib.Core.List.{[], ◌∷◌, map}
use native.Mathlib.Omega.{arith}
use lib.ListN.{get_or}
use lib.Dec.{ltb}
use borrow.Author.Rules.{rules}
use borrow.Author.Tests.{lt-ltb, le-ltb, ltb-true, ltb-false}
use Rattle.outcomes.specs.Firsts.{when}
use Rattle.outcomes.specs.Outcomes.{bare, answered, unless}
use Rattle.level.specs.Levels.{newest, number_of, levels, level_of, said}
use Rattle.level.specs.Sizes.{table_size}
use Rattle.level.specs.declared.Level.{Level}
use Rattle.level.specs.declared.Level.TheVariants.{Oldest, One, Two, Three, Four, Newest}
use Rattle.level.specs.declared.LevelAbove.{LevelAbove}
use Rattle.std.specs.Prelude.{Result, Ok, Err}

-- ---- the levels

pub number_most : (l : Level) → number_of l ≤ 5
number_most Oldest = omega arith
number_most One = omega arith
number_most Two = omega arith
number_most Three = omega arith
number_most Four = omega arith
number_most Newest = omega arith

-- the level in place n of the list has the number n
named : (n : ℕ) → n ≤ 5 → number_of (get_or levels n Newest) ≡ n
named zero h = refl
named (suc zero) h = refl
named (suc (suc zero)) h = refl
named (suc (suc (suc zero))) h = refl
named (suc (suc (suc (suc zero)))) h = refl
named (suc (suc (suc (suc (suc zero))))) h = refl
named (suc (suc (suc (suc (suc (suc n)))))) h = absurd (omega arith)

-- in document 01's numbers: refusal 1 above 5, and else the level of that number
pub says : (n : ℕ) → said (level_of n) ≡ unless (when (ltb newest n) (bare 1)) (answered n)
unfolding level_of when unless
says n = go (ltb newest n) refl
  where
    go : (t : Bool) → ltb newest n ≡ t → said (cond {A = Result Level LevelAbove} t (Err record {}) (Ok (get_or levels n Newest))) ≡ unless (when t (bare 1)) (answered n)
    go true e = refl
    go false e = ap answered (named n (ltb-false newest n e))

pub known : (n : ℕ) (l : Level) → level_of n ≡ Ok l → (n ≤ 5) × (number_of l ≡ n)
unfolding level_of
known n l = go (ltb 5 n) refl
  where
    go : (t : Bool) → ltb 5 n ≡ t → cond {A = Result Level LevelAbove} t (Err record {}) (Ok (get_or levels n Newest)) ≡ Ok l → (n ≤ 5) × (number_of l ≡ n)
    go true e d = let z : ◌≡◌ {A = ℕ} 0 1 = cc in absurd (omega arith)
    go false e d = let g : get_or levels n Newest ≡ l = cc in (ltb-false 5 n e, sym (ap number_of g) ∙ named n (ltb-false 5 n e))

pub refused : (n : ℕ) (r : LevelAbove) → level_of n ≡ Err r → 5 < n
unfolding level_of
refused n r = go (ltb 5 n) refl
  where
    go : (t : Bool) → ltb 5 n ≡ t → cond {A = Result Level LevelAbove} t (Err record {}) (Ok (get_or levels n Newest)) ≡ Err r → 5 < n
    go true e d = ltb-true 5 n e
    go false e d = let z : ◌≡◌ {A = ℕ} 0 1 = cc in absurd (omega arith)

-- 0, 5, 6 and the largest number
pub at_ends : map level_of (0 ∷ 5 ∷ 6 ∷ 4294967295 ∷ []) ≡ Ok Oldest ∷ Ok Newest ∷ Err record {} ∷ Err record {} ∷ []
unfolding level_of
at_ends = refl

-- ---- the sizes

-- by the four pieces of the definition
by_piece : (P : ℕ → Type 0) (v : ℕ) → (v < 1 → P 78) → (1 ≤ v → v < 2 → P 86) → (2 ≤ v → v < 5 → P 96) → (5 ≤ v → P 100) → P (table_size v)
unfolding table_size
by_piece P v f g h k = one (ltb v 1) refl
  where
    five : 2 ≤ v → (t : Bool) → ltb v 5 ≡ t → P (cond t 96 100)
    five l true e = h l (ltb-true v 5 e)
    five l false e = k (ltb-false v 5 e)

    two : 1 ≤ v → (t : Bool) → ltb v 2 ≡ t → P (cond t 86 (cond (ltb v 5) 96 100))
    two l true e = g l (ltb-true v 2 e)
    two l false e = five (ltb-false v 2 e) (ltb v 5) refl

    one : (t : Bool) → ltb v 1 ≡ t → P (cond t 78 (cond (ltb v 2) 86 (cond (ltb v 5) 96 100)))
    one true e = f (ltb-true v 1 e)
    one false e = two (ltb-false v 1 e) (ltb v 2) refl

-- the size never falls as the version rises
pub size_rises : (v w : ℕ) → v ≤ w → table_size v ≤ table_size w
size_rises v w h =
    by_piece (λ n. n ≤ table_size w) v
    (λ p. by_piece (λ n. 78 ≤ n) w (λ q. omega arith) (λ q r. omega arith) (λ q r. omega arith) (λ q. omega arith))
    (λ p o. by_piece (λ n. 86 ≤ n) w (λ q. absurd (omega arith)) (λ q r. omega arith) (λ q r. omega arith) (λ q. omega arith))
    (λ p o. by_piece (λ n. 96 ≤ n) w (λ q. absurd (omega arith)) (λ q r. absurd (omega arith)) (λ q r. omega arith) (λ q. omega arith))
    (λ p. by_piece (λ n. 100 ≤ n) w (λ q. absurd (omega arith)) (λ q r. absurd (omega arith)) (λ q r. absurd (omega arith)) (λ q. omega arith))

pub size_least : (v : ℕ) → 78 ≤ table_size v
size_least v = by_piece (λ n. 78 ≤ n) v (λ p. omega arith) (λ p o. omega arith) (λ p o. omega arith) (λ p. omega arith)

-- ---- for `search`: what closes a need, and the tests that the branches on the way decide
pub ruleset decided = (rules, lt-ltb, le-ltb)

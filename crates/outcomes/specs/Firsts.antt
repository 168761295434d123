-- The first thing found in an order: of two places, and of 0, 1, .., n - 1. What is found may be anything: a refusal, a number, a record.
use Rattle.std.specs.Prelude.{ℕ, zero, suc, ◌<◌, ◌≡◌, Bool, cond}
use Rattle.std.proofs.Math.Option.{Option, none, some}

-- x where the test holds, and else nothing
unfoldable pub when : {A : Type 0} → Bool → A → Option A
when test x = cond test (some x) none

-- the first found of two
infixr 20 ◌then◌
unfoldable pub ◌then◌ : {A : Type 0} → Option A → Option A → Option A
none then o = o
some x then o = some x

-- the first found of f 0, f 1, .., f (n - 1)
unfoldable pub first_among : {A : Type 0} → (ℕ → Option A) → ℕ → Option A
first_among f zero = none
first_among f (suc n) = first_among f n then f n

-- the same in propositions: x is found at one of the places below n, and nothing at those before it
pub record IsFirst {A : Type 0} (f : ℕ → Option A) (n : ℕ) (x : A) : Type 0 where
  pub place : ℕ
  pub inside : place < n
  pub here : f place ≡ some x
  pub earlier : (i : ℕ) → i < place → f i ≡ none

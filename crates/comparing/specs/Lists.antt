-- Document 02, Ask 2: what is listed "in field order", or "in one key order, each key once".
use Rattle.std.specs.Prelude.{ℕ, zero, suc, ◌↔◌}
use Rattle.std.proofs.Math.Option.{Option, none, some}
use mathlib.Core.List.{List, [], ◌∷◌, ◌++◌, Memᴰ}

-- one entry, or none
unfoldable pub entry_of : {A : Type 0} → Option A → List A
entry_of none = []
entry_of (some d) = d ∷ []

-- the entries of 0, 1, .., n - 1 in turn
unfoldable pub list_below : {A : Type 0} → (ℕ → Option A) → ℕ → List A
list_below f zero = []
list_below f (suc n) = list_below f n ++ entry_of (f n)

-- each entry is below all that follow it
pub data Rising {A : Type 0} (Below : A → A → Type 0) : List A → Type 0 where
  rising_none : Rising Below []
  rising_more : {d : A} {ds : List A} → ((e : A) → Memᴰ e ds → Below d e) → Rising Below ds → Rising Below (d ∷ ds)

-- a list of all that is so: an entry stands in it exactly when it is so, and the entries rise, so that each stands once
pub record ListOf {A : Type 0} (Below : A → A → Type 0) (So : A → Type 0) (ds : List A) : Type 0 where
  pub exactly : (d : A) → Memᴰ d ds ↔ So d
  pub rising : Rising Below ds

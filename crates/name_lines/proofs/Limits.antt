-- A 'name' table's listing is `too long` exactly where the input is above 65,536 bytes, since no listing starts so.
-- Assumes nothing.
use Prim.Native.Nat.{ℕ, ◌<◌}
use mathlib.Core.Path.{◌≡◌, ap}
use mathlib.Core.Logic.{◌↔◌}
use mathlib.Core.Option.{none, some}
use mathlib.Core.List.{List}
use native.Mathlib.Omega.{arith}
use lib.ListN.{length, get_or}
use Rattle.characters.specs.Texts.{codes}
use Rattle.outcomes.specs.Outcomes.{Outcome, refused, answered}
use Rattle.name.specs.Acceptance.{check_of}
use Rattle.lines.proofs.Limits.{too_long_exactly}
use Rattle.name_lines.specs.Lines.{head_line}
use Rattle.name_lines.specs.Listings.{after_check, listing_of}

another : (t : List ℕ) (o : Outcome (Unit {0})) → after_check t o ≡ codes "too long\n" → ⊥
unfolding head_line
another t (refused n none) e = let d : ◌≡◌ {A = ℕ} 114 116 = ap (λ l. get_or l 0 0) e in omega arith
another t (refused n (some k)) e = let d : ◌≡◌ {A = ℕ} 114 116 = ap (λ l. get_or l 0 0) e in omega arith
another t (answered u) e = let d : ◌≡◌ {A = ℕ} 110 116 = ap (λ l. get_or l 0 0) e in omega arith

pub too_long_lem : (t : List ℕ) → (listing_of t ≡ codes "too long\n") ↔ (65536 < length t)
unfolding listing_of
too_long_lem t = too_long_exactly t _ (another t (check_of t))

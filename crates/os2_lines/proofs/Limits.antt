-- An 'OS/2' table's listing is `too long` exactly where the input is above 65,536 bytes, since no listing starts so.
-- Assumes nothing.
use Prim.Native.Nat.{ℕ, ◌<◌}
use mathlib.Core.Path.{◌≡◌, ap}
use mathlib.Core.Logic.{◌↔◌}
use mathlib.Core.Option.{none, some}
use mathlib.Core.List.{List}
use native.Mathlib.Omega.{arith}
use lib.ListN.{length, get_or}
use Rattle.characters.specs.Texts.{codes}
use Rattle.outcomes.specs.Outcomes.{Outcome, refused, answered}
use Rattle.os2_acceptance.specs.Acceptance.{checked}
use Rattle.lines.specs.Numerals.{digits, decimal}
use Rattle.lines.proofs.Limits.{too_long_exactly}
use Rattle.os2_lines.specs.Listings.{name_of, line_at, lines_below, after_check, listing_of}

another : (L : ℕ) (b : List ℕ) (o : Outcome (Unit {0})) → after_check L b o ≡ codes "too long\n" → ⊥
unfolding digits decimal name_of line_at lines_below
another L b (refused n none) e = let d : ◌≡◌ {A = ℕ} 114 116 = ap (λ l. get_or l 0 0) e in omega arith
another L b (refused n (some k)) e = let d : ◌≡◌ {A = ℕ} 114 116 = ap (λ l. get_or l 0 0) e in omega arith
another L b (answered u) e = let d : ◌≡◌ {A = ℕ} 48 116 = ap (λ l. get_or l 0 0) e in omega arith

pub too_long_lem : (L : ℕ) (b : List ℕ) → (listing_of L b ≡ codes "too long\n") ↔ (65536 < length b)
unfolding listing_of
too_long_lem L b = too_long_exactly b _ (another L b (checked L b))

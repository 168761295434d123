-- The lines that any listing may have, written out, and when an input is too long.
-- Assumes nothing.
use Prim.Native.Nat.{ℕ, ◌<◌, ◌≤◌}
use mathlib.Core.Path.{◌≡◌, refl, sym, ap, ◌∙◌}
use mathlib.Core.Bool.{cond}
use mathlib.Core.Logic.{◌↔◌}
use mathlib.Core.List.{List, [], ◌∷◌, map}
use native.Mathlib.Omega.{arith}
use native.Mathlib.Decide.{dec_lt}
use lib.ListN.{length}
use borrow.Author.Tests.{lt-ltb, le-ltb}
use Rattle.characters.specs.Texts.{codes}
use Rattle.outcomes.specs.Outcomes.{bare, carrying}
use Rattle.lines.specs.Numerals.{digits, decimal}
use Rattle.lines.specs.Lines.{refusal_line, too_long, listed}

-- the one line "`refused 19 at 1`" (document 02, Ask 3). "Without a place: `refused 11`"
pub refusals_read : map refusal_line (carrying 19 1 ∷ bare 11 ∷ carrying 15 65535 ∷ []) ≡ codes "refused 19 at 1\n" ∷ codes "refused 11\n" ∷ codes "refused 15 at 65535\n" ∷ []
unfolding digits decimal
refusals_read = refl

-- "at most 65,536 bytes; more gives the line `too long`": whatever the listing is
pub above : (input listing : List ℕ) → 65536 < length input → listed input listing ≡ codes "too long\n"
unfolding listed too_long
above input listing h = ap (λ t. cond t (codes "too long\n") listing) (lt-ltb 65536 (length input) h)

pub within : (input listing : List ℕ) → length input ≤ 65536 → listed input listing ≡ listing
unfolding listed too_long
within input listing h = ap (λ t. cond t (codes "too long\n") listing) (le-ltb 65536 (length input) h)

-- so the line is written exactly for an input above 65,536 bytes, where the listing is another
pub too_long_exactly : (input listing : List ℕ) → (listing ≡ codes "too long\n" → ⊥) → (listed input listing ≡ codes "too long\n") ↔ (65536 < length input)
too_long_exactly input listing other = (at (dec_lt 65536 (length input)), above input listing)
  where
    at : Dec (65536 < length input) → listed input listing ≡ codes "too long\n" → 65536 < length input
    at (yes h) e = h
    at (no h) e =
        let g : length input ≤ 65536 = omega arith in
        absurd (other (sym (within input listing g) ∙ e))

-- What the format decides of the layout.
-- Assumes nothing.
use Prim.Native.Nat.{ℕ, ◌+◌, ◌≤◌, ◌<◌}
use mathlib.Core.Path.{◌≡◌}
use mathlib.Core.List.{List}
use native.Mathlib.Decide.{ℕ_discrete}
use native.Mathlib.Omega.{arith}
use borrow.Author.Tests.{eq-eqb, ne_eqb}
use Rattle.bigendian.specs.Numbers.{number, Bytes}
use Rattle.bigendian.proofs.Laws.{number_fits}
use Rattle.name_layout.specs.Layout.{format, records_end, tag_count, tags_at}

-- a 16-bit number of a table
pub word_lt : (t : List ℕ) → Bytes t → (at : ℕ) → number 2 t at < 65536
word_lt t b at = number_fits 2 t at b

module _ (t : List ℕ) where
  pub format_0 : format t ≡ 0 → (tag_count t ≡ 0) × (tags_at t ≡ records_end t)
  unfolding tag_count tags_at
  format_0 e = (simp (eq-eqb _ _ e), simp (eq-eqb _ _ e))

  pub format_1 : (format t ≡ 0 → ⊥) → (tag_count t ≡ number 2 t (records_end t)) × (tags_at t ≡ records_end t + 2)
  unfolding tag_count tags_at
  format_1 e = (simp (ne_eqb _ _ e), simp (ne_eqb _ _ e))

  -- the tags follow the records
  pub tags_after : records_end t ≤ tags_at t
  tags_after = side (ℕ_discrete (format t) 0)
    where
      side : Dec (format t ≡ 0) → records_end t ≤ tags_at t
      side (yes e) = omega (arith, format_0 e)
      side (no e) = omega (arith, format_1 e)

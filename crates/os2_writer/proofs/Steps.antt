-- What the reads of numbers and of fields ask, and one step of the loop that reads, over the definitions.
-- Assumes nothing.
use Prim.Native.Nat.{ℕ, suc, ◌<◌, ◌≤◌}
use mathlib.Core.Path.{◌≡◌, ◌∙◌}
use mathlib.Core.Bool.{false}
use mathlib.Core.Option.{none}
use mathlib.Core.List.{List}
use native.Mathlib.Decide.{ℕ_discrete, dec_lt}
use native.Mathlib.Omega.{arith}
use lib.ListN.{length, set}
use lib.Seq.{get_or-set_same, get_or-set_other}
use lib.IntN.{ℤ, pos}
use Rattle.os2_fields.specs.Catalogue.{catalogue, field_count, field_of}
use Rattle.os2_fields.proofs.Tiling.{since_rises}
use Rattle.os2_fields.specs.Fields.{version}
use Rattle.os2_fields.specs.Reading.{Lies}
use Rattle.level.specs.Levels.{newest}
use Rattle.os2_acceptance.specs.Acceptance.{judged}
use Rattle.os2_acceptance.proofs.Accepting.{open_lies}
use Rattle.os2_store.specs.Writing.{number_for, InVersion}
use Rattle.os2_store.specs.Storing.{Fitting}
use Rattle.os2_store.proofs.Steps.{fit_at}
use Rattle.os2_writer.specs.Values.{WordFor}

-- the number for an unsigned field of two bytes that the version has
pub word_for : (v : ℕ) (xs : List ℤ) (fit : Fitting v xs) (k : ℕ) → k < field_count → (field_of k).signed ≡ false → (field_of k).width ≡ 2 → (field_of k).since ≤ v → WordFor xs k
word_for v xs fit k h p w s = record { within = rw fit.full h; plain = p; two = w; fit = fit_at v xs fit k h s }

since_most : (k : ℕ) → k < field_count → (field_of k).since ≤ newest
unfolding field_of catalogue
since_most k h = since_rises k 47 (omega arith) (omega arith)

-- of a table that level 5 accepts, a field that its version has can be read
pub readable : (b : List ℕ) → judged newest b ≡ none → (k : ℕ) → k < field_count → (field_of k).since ≤ version b → Lies b (field_of k)
readable b told k h s = open_lies newest b told k h (since_most k h) s

-- the fields below k are read, and then field k
pub read_next : (value : ℕ → ℤ) (xs : List ℤ) (k : ℕ) (z : ℤ) → k < length xs → ((j : ℕ) → j < k → number_for xs j ≡ value j) → z ≡ value k →
    (j : ℕ) → j < suc k → number_for (set xs k z) j ≡ value j
read_next value xs k z l h e j m = at (ℕ_discrete j k)
  where
    at : Dec (j ≡ k) → number_for (set xs k z) j ≡ value j
    at (yes q) = rw q (get_or-set_same xs k z (pos 0) l ∙ e)
    at (no q) = get_or-set_other xs k j z (pos 0) q ∙ h j (omega arith)

-- a field that a version has comes before one that it lacks
pub comes_before : (v j k : ℕ) → InVersion v j → v < (field_of k).since → k < field_count → j < k
comes_before v j k i s h = at (dec_lt j k)
  where
    at : Dec (j < k) → j < k
    at (yes l) = l
    at (no l) = absurd (omega (arith, i.1, since_rises k j (omega arith) i.0))

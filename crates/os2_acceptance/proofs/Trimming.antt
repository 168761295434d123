-- What a level says of some bytes it says of their first bytes, up to the size for the smaller of version and level.
-- A field that version and level have ends within that size, so it reads the same.
-- Assumes nothing.
use Prim.Native.Nat.{ℕ, min, ◌<◌, ◌≤◌, zero-le}
use mathlib.Core.Path.{◌≡◌, refl, sym, ◌∙◌}
use mathlib.Core.Bool.{Bool, true, false, cond}
use mathlib.Core.Option.{none}
use mathlib.Core.List.{List}
use native.Mathlib.Nat.{le_refl, min-eq_left}
use native.Mathlib.Decide.{dec_lt}
use native.Mathlib.Omega.{arith}
use lib.Dec.{leb}
use lib.ListN.{length, take}
use lib.Seq.{take_all, length-take-le}
use borrow.Author.Tests.{leb-true}
use Rattle.level.specs.Sizes.{table_size}
use Rattle.level.proofs.Laws.{size_least}
use Rattle.os2_rules.specs.Tests.{verdict_of}
use Rattle.os2_fields.specs.Catalogue.{catalogue, field_of}
use Rattle.os2_fields.specs.Fields.{raw, version, values_of}
use Rattle.os2_fields.proofs.Tiling.{raw_same, values_same}
use Rattle.os2_acceptance.specs.Acceptance.{ruling, judged, checked}
use Rattle.os2_acceptance.specs.Demands.{trimmed, ChecksNoMore}
use Rattle.os2_acceptance.proofs.Accepting.{judged_long}

-- the values that the rules look at read the same at the version's own size
rules_same : (b : List ℕ) → values_of (raw (take (table_size (version b)) b)) ≡ values_of (raw b)
rules_same b = sym (values_same (raw b) (raw (take (table_size (version b)) b)) (λ k h s. sym (raw_same b (version b) k h s)))

module _ (L : ℕ) (b : List ℕ) (sized : table_size (min (version b) L) ≤ length b) where
  pub version_same : version (trimmed L b) ≡ version b
  unfolding field_of catalogue
  version_same = raw_same b (min (version b) L) 0 (omega arith) zero-le

  length_is : length (trimmed L b) ≡ table_size (min (version b) L)
  length_is = length-take-le (table_size (min (version b) L)) b sized

  ruling_same : ruling L (trimmed L b) ≡ ruling L b
  unfolding ruling
  ruling_same = rw version_same (at (leb (version b) L) refl)
    where
      at : (t : Bool) → leb (version b) L ≡ t → cond t (verdict_of (values_of (raw (trimmed L b)))) none ≡ cond t (verdict_of (values_of (raw b))) none
      at true e = rw (min-eq_left (leb-true (version b) L e), rules_same b)
      at false e = refl

  pub judged_same : judged L (trimmed L b) ≡ judged L b
  judged_same =
      let least = size_least (min (version b) L) in
      judged_long L (trimmed L b) (rw length_is (omega arith)) (rw (length_is, version_same) (le_refl (table_size (min (version b) L))))
      ∙ (ruling_same ∙ sym (judged_long L b (omega arith) sized))

pub judged_trimmed : (L : ℕ) (b : List ℕ) → judged L (trimmed L b) ≡ judged L b
judged_trimmed L b = size (dec_lt (length b) (table_size (min (version b) L)))
  where
    size : Dec (length b < table_size (min (version b) L)) → judged L (trimmed L b) ≡ judged L b
    size (yes h) = rw (take_all (table_size (min (version b) L)) b (omega arith))
    size (no h) = judged_same L b (omega arith)

pub checked_trimmed : ChecksNoMore checked
unfolding checked
checked_trimmed L b = rw (judged_trimmed L b)

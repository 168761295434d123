-- What the writer's definition comes to at each of its tests, in their order.
-- Assumes nothing.
use Prim.Native.Nat.{ℕ, ◌<◌, ◌≤◌}
use mathlib.Core.Path.{◌≡◌}
use mathlib.Core.Bool.{true}
use mathlib.Core.Option.{Option, none, some}
use mathlib.Core.List.{List}
use lib.IntN.{ℤ, pos}
use borrow.Author.Tests.{lt-ltb, le-ltb}
use Rattle.outcomes.specs.Firsts.{when, ◌then◌, first_among}
use Rattle.outcomes.specs.Outcomes.{Refusal, carrying, refused, answered, unless}
use Rattle.level.specs.Levels.{newest}
use Rattle.level.specs.Sizes.{table_size}
use Rattle.os2_rules.specs.Tests.{verdict_of}
use Rattle.os2_fields.specs.Catalogue.{field_count}
use Rattle.os2_fields.specs.Fields.{values_of}
use Rattle.os2_store.specs.Writing.{number_for, code_for, no_version, has_no_room, misfit_at, unwritten, write}
use Rattle.os2_store.proofs.Writings.{code_version}

module _ (xs : List ℤ) (r : ℕ) where
  pub wrote_4 : no_version (number_for xs 0) ≡ true → refused 4 none ≡ write xs r
  unfolding write unwritten unless when ◌then◌
  wrote_4 e = rw e

  module _ (v : ℕ) (x : number_for xs 0 ≡ pos v) (most : v ≤ newest) where
    pub wrote_5 : r < table_size v → refused 5 none ≡ write xs r
    unfolding write unwritten unless when ◌then◌ no_version has_no_room
    wrote_5 h = rw (code_version xs v x, x, le-ltb newest v most, lt-ltb r (table_size v) h)

    module _ (long : table_size v ≤ r) where
      pub wrote_8 : {k : ℕ} → some (carrying 8 k) ≡ first_among (misfit_at v xs) field_count → refused 8 (some k) ≡ write xs r
      unfolding write unwritten unless when ◌then◌ no_version has_no_room
      wrote_8 e = rw (code_version xs v x, x, le-ltb newest v most, le-ltb r (table_size v) long, ← e)

      pub wrote : none ≡ first_among (misfit_at v xs) field_count → {o : Option Refusal} → o ≡ verdict_of (values_of (code_for xs)) →
          unless o (answered (table_size v)) ≡ write xs r
      unfolding write unwritten unless when ◌then◌ no_version has_no_room
      wrote e d = rw (← d, code_version xs v x, x, le-ltb newest v most, le-ltb r (table_size v) long, ← e)

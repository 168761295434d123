-- What `write` answers is what document 01 settles: each of its tests is matched with its proposition, in their order.
-- Assumes nothing.
use Prim.Native.Nat.{ℕ, ◌/◌, ◌^◌, ◌≤◌}
use mathlib.Core.Path.{◌≡◌, refl, sym}
use mathlib.Core.Logic.{◌↔◌}
use mathlib.Core.Bool.{Bool, true, false, cond, ◌&&◌, false≢true, true≢false}
use mathlib.Core.Option.{Option, none, some}
use mathlib.Core.List.{List}
use native.Mathlib.Omega.{arith}
use lib.Dec.{ltb}
use lib.IntN.{ℤ, pos, negsuc}
use borrow.Author.Tests.{lt-ltb, ltb-true, ltb-false, not-true}
use Rattle.outcomes.specs.Firsts.{when, ◌then◌, first_among}
use Rattle.outcomes.specs.Outcomes.{Refusal, bare, carrying, Outcome, answered, unless}
use Rattle.outcomes.proofs.Laws.{Lowest, lowest_exactly, none_exactly}
use Rattle.outcomes.proofs.Tests.{and_true, not_is, fails}
use Rattle.level.specs.Levels.{newest}
use Rattle.level.specs.Sizes.{table_size}
use Rattle.os2_rules.specs.Tests.{verdict_of}
use Rattle.os2_rules.proofs.Exactly.{kept_exactly, broken_first, broken_exactly}
use Rattle.os2_fields.specs.declared.catalogue.Field.{Field}
use Rattle.os2_fields.specs.Catalogue.{field_count, field_of}
use Rattle.os2_fields.specs.Fields.{values_of}
use Rattle.os2_store.specs.Writing.{number_for, fits, code_for, version_for, no_version, has_no_room, misfit, misfit_at, unwritten, write}
use Rattle.os2_store.specs.WriteSettled.{Fits, unsigned_fits, positive_fits, negative_fits, AllFit, IsVersion, FirstMisfit, WriteSettled, outside_versions, room_short, does_not_fit}
use Rattle.os2_store.specs.WriteSettled.{breaks_rule, is_written}
use Rattle.os2_store.proofs.Images.{has_exactly}
use Rattle.os2_store.proofs.Outcomes.{wrote_4, wrote_5, wrote_8, wrote}
use Rattle.os2_store.proofs.Writings.{misfits_none, code_version}

-- the test of what fits says just that
pub fits_exactly : (f : Field) (z : ℤ) → (fits f z ≡ true) ↔ Fits f z
unfolding fits
fits_exactly f (pos x) = (there f.signed refl, back)
  where
    there : (s : Bool) → f.signed ≡ s → ltb x (cond s (256 ^ f.width / 2) (256 ^ f.width)) ≡ true → Fits f (pos x)
    there true g e = positive_fits g (ltb-true x (256 ^ f.width / 2) e)
    there false g e = unsigned_fits g (ltb-true x (256 ^ f.width) e)

    back : Fits f (pos x) → ltb x (cond f.signed (256 ^ f.width / 2) (256 ^ f.width)) ≡ true
    back (unsigned_fits g h) = rw g (lt-ltb x (256 ^ f.width) h)
    back (positive_fits g h) = rw g (lt-ltb x (256 ^ f.width / 2) h)
fits_exactly f (negsuc x) = (there f.signed refl, back)
  where
    there : (s : Bool) → f.signed ≡ s → (s && ltb x (256 ^ f.width / 2)) ≡ true → Fits f (negsuc x)
    there true g e = negative_fits g (ltb-true x (256 ^ f.width / 2) e)
    there false g e = absurd (false≢true e)

    back : Fits f (negsuc x) → (f.signed && ltb x (256 ^ f.width / 2)) ≡ true
    back (negative_fits g h) = rw g (lt-ltb x (256 ^ f.width / 2) h)

module _ (v : ℕ) (xs : List ℤ) where
  all_fit : (n : ℕ) → first_among (misfit_at v xs) n ≡ none → AllFit v xs n
  all_fit n e k h s = (fits_exactly (field_of k) (number_for xs k)).0 ((misfits_none v xs n).0 e k h s)

  fit_none : AllFit v xs field_count → first_among (misfit_at v xs) field_count ≡ none
  fit_none a = (misfits_none v xs field_count).1 (λ k h s. (fits_exactly (field_of k) (number_for xs k)).1 (a k h s))

  -- the field told is the lowest that does not fit
  first_misfit : (r : Refusal) → first_among (misfit_at v xs) field_count ≡ some r → (k : ℕ) × (carrying 8 k ≡ r) × FirstMisfit v xs k
  unfolding misfit
  first_misfit r e =
      let l = (lowest_exactly (misfit v xs) (carrying 8) field_count r).0 e in
      let m = (and_true _ _).0 l.holds in
      let u = (fails (fits (field_of l.place) (number_for xs l.place)) (fits_exactly (field_of l.place) (number_for xs l.place))).0 (not-true _ m.1) in (
        l.place,
        l.is,
        record {
          has = (l.inside, (has_exactly v l.place).0 m.0);
          unfit = u;
          earlier = all_fit l.place ((none_exactly (misfit v xs) (carrying 8) l.place).1 l.earlier);
        },
      )

-- the version
version_is : (xs : List ℤ) (z : ℤ) → number_for xs 0 ≡ z → no_version z ≡ false → (v : ℕ) × IsVersion xs v
unfolding no_version
version_is xs (pos v) e h = (v, (e, ltb-false newest v h))
version_is xs (negsuc v) e h = absurd (true≢false h)

no_version_is : (xs : List ℤ) → no_version (number_for xs 0) ≡ true → (v : ℕ) → IsVersion xs v → ⊥
unfolding no_version
no_version_is xs h v i = let l : ltb newest v ≡ true = rw i.0 at h in omega (arith, ltb-true newest v l, i.1)

pub write_settles : (xs : List ℤ) (r : ℕ) → WriteSettled xs r (write xs r)
unfolding write unwritten unless ◌then◌ when has_no_room
write_settles xs r = version (no_version (number_for xs 0)) refl
  where
    rules : (v : ℕ) → IsVersion xs v → table_size v ≤ r → AllFit v xs field_count → (o : Option Refusal) → verdict_of (values_of (code_for xs)) ≡ o →
        WriteSettled xs r (unless o (answered (table_size v)))
    rules v i l m none e = is_written i l m ((kept_exactly (values_of (code_for xs))).0 e)
    rules v i l m (some ρ) e = let b = broken_first (values_of (code_for xs)) ρ e in rw (← b.1) (breaks_rule i l m b.2)

    fitting : (v : ℕ) → IsVersion xs v → table_size v ≤ r → (o : Option Refusal) → first_among (misfit_at v xs) field_count ≡ o →
        WriteSettled xs r (unless (o then verdict_of (values_of (code_for xs))) (answered (table_size v)))
    fitting v i l none e = rules v i l (all_fit v xs field_count e) (verdict_of (values_of (code_for xs))) refl
    fitting v i l (some ρ) e = let m = first_misfit v xs ρ e in rw (← m.1) (does_not_fit i l m.2)

    room : (v : ℕ) → IsVersion xs v → (t : Bool) → ltb r (table_size v) ≡ t →
        WriteSettled xs r (unless (when t (bare 5) then first_among (misfit_at v xs) field_count then verdict_of (values_of (code_for xs))) (answered (table_size v)))
    room v i true e = room_short i (ltb-true r (table_size v) e)
    room v i false e = fitting v i (ltb-false r (table_size v) e) (first_among (misfit_at v xs) field_count) refl

    version : (t : Bool) → no_version (number_for xs 0) ≡ t → WriteSettled xs r (unless
        (when t (bare 4) then when (has_no_room (version_for xs) r) (bare 5) then first_among (misfit_at (version_for xs) xs) field_count then verdict_of (values_of (code_for xs)))
        (answered (table_size (version_for xs))))
    version true e = outside_versions (no_version_is xs e)
    version false e =
        let i = version_is xs (number_for xs 0) refl e in
        rw (code_version xs i.0 i.1.0) (room i.0 i.1 (ltb r (table_size i.0)) refl)

-- and document 01 settles nothing else
pub write_settled_is : (xs : List ℤ) (r : ℕ) (o : Outcome ℕ) → WriteSettled xs r o → o ≡ write xs r
unfolding misfit unless
write_settled_is xs r o (outside_versions n) = wrote_4 xs r (none_is (no_version (number_for xs 0)) refl)
  where
    none_is : (t : Bool) → no_version (number_for xs 0) ≡ t → t ≡ true
    none_is true e = refl
    none_is false e = let i = version_is xs (number_for xs 0) refl e in absurd (n i.0 i.1)
write_settled_is xs r o (room_short {v} i l) = wrote_5 xs r v i.0 i.1 l
write_settled_is xs r o (does_not_fit {v} {k} i l m) = wrote_8 xs r v i.0 i.1 l (sym ((lowest_exactly (misfit v xs) (carrying 8) field_count _).1 here))
  where
    here : Lowest (misfit v xs) (carrying 8) field_count (carrying 8 k)
    here =
        record {
          place = k;
          inside = m.has.0;
          holds = (and_true _ _).1 ((has_exactly v k).1 m.has.1, (not_is _).1 ((fails _ (fits_exactly (field_of k) (number_for xs k))).1 m.unfit));
          is = refl;
          earlier = (none_exactly (misfit v xs) (carrying 8) k).0 ((misfits_none v xs k).1 (λ j h s. (fits_exactly (field_of j) (number_for xs j)).1 (m.earlier j h s)));
        }
write_settled_is xs r o (breaks_rule {v} {n} i l a b) =
    wrote xs r v i.0 i.1 l (sym (fit_none v xs a)) (sym ((broken_exactly (values_of (code_for xs)) n).1 b))
write_settled_is xs r o (is_written {v} i l a k) = wrote xs r v i.0 i.1 l (sym (fit_none v xs a)) (sym ((kept_exactly (values_of (code_for xs))).1 k))

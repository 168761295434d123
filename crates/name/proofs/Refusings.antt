-- The check refuses with exactly the refusal that the order settles: each test is matched with its condition, from the first to the last, and back.
-- Assumes nothing.
use Prim.Native.Nat.{ℕ, zero, suc, ◌<◌}
use mathlib.Core.Path.{◌≡◌, refl, sym, ◌∙◌}
use mathlib.Core.Logic.{inl, inr, ⊎_elim, ◌↔◌}
use mathlib.Core.Bool.{Bool, true, false, false≢true}
use mathlib.Core.Option.{Option, none, some}
use mathlib.Core.List.{List}
use native.Mathlib.Omega.{arith}
use Rattle.outcomes.specs.Firsts.{when, ◌then◌, first_among, IsFirst}
use Rattle.outcomes.specs.Outcomes.{Refusal, carrying}
use Rattle.outcomes.proofs.Laws.{when_some, then_some, met, first_all, first_exactly, unless_refused}
use Rattle.outcomes.proofs.Tests.{holds}
use Rattle.name_layout.specs.Layout.{count, text_at, tag_count}
use Rattle.name_layout.specs.Keys.{key_of, KeyBelow}
use Rattle.name_tests.specs.Tests.{starts_beyond, runs_over, is_language_refused, below_before, equals_before}
use Rattle.name_tests.specs.Languages.{LanguageAllowed}
use Rattle.name_tests.proofs.Tests.{long, short, format_known, records_within, records_past, tags_within, tags_past, storage_misplaced}
use Rattle.name_tests.proofs.Tests.{string_beyond, string_starts, string_over, string_held, string_past, Rises, first_above, key_below, key_equal, above, equal_not_below, language_fits}
use Rattle.name.specs.Acceptance.{layout_fault, record_fault, tag_fault, faults, check_of}
use Rattle.name.specs.Refusing as table
use Rattle.name.specs.Refusing.{Known, Laid, Fits, Sound, SoundBelow, Refused, RefusedExactlyWhen}
use Rattle.name.proofs.Acceptances as tests
use Rattle.name.proofs.Acceptances.{layout_none, record_none, tag_none}

module _ (t : List ℕ) where
  -- a record without a fault is sound
  sound : Known t → (i : ℕ) → (record_fault t i ≡ none) ↔ Sound t i
  sound k i = (λ e. there ((record_none t i).0 e), λ s. (record_none t i).1 (back i s))
    where
      order : (i : ℕ) → Rises t i → (j : ℕ) → i ≡ suc j → KeyBelow (key_of t j) (key_of t i)
      order i e j q = rw q ((above t j).0 (rw q at e))

      there : tests.Sound t i → Sound t i
      there s = record { string = (string_held t _).0 s.string; language = (language_fits t i k).0 s.language; order = order i s.order }

      again : (i : ℕ) → ((j : ℕ) → i ≡ suc j → KeyBelow (key_of t j) (key_of t i)) → Rises t i
      again zero f = first_above t
      again (suc j) f = (above t j).1 (f j refl)

      back : (i : ℕ) → Sound t i → tests.Sound t i
      back i s = record { string = (string_held t _).1 s.string; language = (language_fits t i k).1 s.language; order = again i s.order }

  -- ---- from the check's order to the refusal

  layout_refused : (r : Refusal) → layout_fault t ≡ some r → Refused t r
  unfolding layout_fault
  layout_refused r e =
      ⊎_elim (λ p. rw (← p.1) (table.too_short ((short t).0 p.0))) (λ p.
      let a = (long t).0 p.0 in
      ⊎_elim (λ q. rw (← q.1) (table.other_format a ((holds _ (format_known t)).0 q.0))) (λ q.
      let b = (format_known t).0 q.0 in
      ⊎_elim (λ u. rw (← u.1) (table.records_pass a b ((records_past t).0 u.0))) (λ u.
      let c = (records_within t).0 u.0 in
      ⊎_elim (λ v. rw (← v.1) (table.tags_pass a b c ((tags_past t).0 v.0))) (λ v.
      let w = (when_some _ _ _).0 v.1 in
      rw (← w.1) (table.misplaced a b c ((tags_within t).0 v.0) ((storage_misplaced t).0 w.0)))
      ((met _ _ _ _).0 u.1))
      ((met _ _ _ _).0 q.1))
      ((met _ _ _ _).0 p.1))
      ((met _ _ _ _).0 e)

  record_refused : (i : ℕ) → SoundBelow t i → i < count t → (r : Refusal) → record_fault t i ≡ some r → Refused t r
  unfolding record_fault when ◌then◌
  record_refused i s h r e = by (starts_beyond t (text_at i)) (runs_over t (text_at i)) (is_language_refused t i) (below_before t i) (equals_before t i) refl refl refl refl refl
    where
      -- the first test that holds gives the refusal
      gives : {x : Refusal} → record_fault t i ≡ some x → Refused t x → Refused t r
      gives {x} d w = let z : x ≡ r = cc in rw (← z) w

      lower : (i : ℕ) → SoundBelow t i → i < count t → Fits t (text_at i) → LanguageAllowed t i → below_before t i ≡ true → Refused t (carrying 17 i)
      lower zero s h a l n = absurd (false≢true (sym (first_above t).0 ∙ n))
      lower (suc j) s h a l n = table.key_below s h a l ((key_below t j).0 n)

      equal : (i : ℕ) → SoundBelow t i → i < count t → Fits t (text_at i) → LanguageAllowed t i → equals_before t i ≡ true → Refused t (carrying 19 i)
      equal zero s h a l n = absurd (false≢true (sym (first_above t).1 ∙ n))
      equal (suc j) s h a l n = table.key_equal s h a l ((key_equal t j).0 n)

      allowed : (is_language_refused t i ≡ false) ↔ LanguageAllowed t i
      allowed = language_fits t i s.laid.known

      by : (a b c d f : Bool) → starts_beyond t (text_at i) ≡ a → runs_over t (text_at i) ≡ b → is_language_refused t i ≡ c → below_before t i ≡ d → equals_before t i ≡ f → Refused t r
      by true b c d f p q u v w = gives (simp p) (table.string_beyond s h ((string_beyond t _).0 p))
      by false true c d f p q u v w = let x = (string_over t _).0 q in gives (simp (p, q)) (table.string_runs_over s h x.0 x.1)
      by false false true d f p q u v w = gives (simp (p, q, u)) (table.language_refused s h ((string_held t _).0 (p, q)) ((holds _ allowed).0 u))
      by false false false true f p q u v w = gives (simp (p, q, u, v)) (lower i s h ((string_held t _).0 (p, q)) (allowed.0 u) v)
      by false false false false true p q u v w = gives (simp (p, q, u, v, w)) (equal i s h ((string_held t _).0 (p, q)) (allowed.0 u) w)
      by false false false false false p q u v w =
          let none_here : record_fault t i ≡ none = simp (p, q, u, v, w) in
          let z : ◌≡◌ {A = ℕ} 0 1 = cc in absurd (omega arith)

  sound_below : Laid t → (n : ℕ) → ((i : ℕ) → i < n → record_fault t i ≡ none) → SoundBelow t n
  sound_below l n f = record { laid = l; sound = λ i h. (sound l.known i).0 (f i h) }

  fault_refused : (r : Refusal) → faults t ≡ some r → Refused t r
  unfolding faults tag_fault
  fault_refused r e = ⊎_elim (layout_refused r) (λ p. let l = (layout_none t).0 p.0 in ⊎_elim (in_records l) (in_tags l) ((then_some _ _ _).0 p.1)) ((then_some _ _ _).0 e)
    where
      in_records : Laid t → first_among (record_fault t) (count t) ≡ some r → Refused t r
      in_records l q =
          let f = (first_exactly _ _ _).0 q in
          record_refused f.place (sound_below l f.place f.earlier) f.inside r f.here

      in_tags : Laid t → (first_among (record_fault t) (count t) ≡ none) × (first_among (tag_fault t) (tag_count t) ≡ some r) → Refused t r
      in_tags l q =
          let f = (first_exactly _ _ _).0 q.1 in
          let w = (when_some _ _ _).0 f.here in
          rw (← w.1)
          (table.tag_passes (sound_below l (count t) ((first_all _ _).0 q.0)) f.inside (λ j h. (tag_none t j).0 (f.earlier j h)) ((string_past t _).0 w.0))

  -- ---- and back

  from_layout : {r : Refusal} → layout_fault t ≡ some r → faults t ≡ some r
  unfolding faults
  from_layout e = (then_some _ _ _).1 (inl e)

  from_record : {r : Refusal} (i : ℕ) → SoundBelow t i → i < count t → record_fault t i ≡ some r → faults t ≡ some r
  unfolding faults
  from_record {r} i s h e =
      let f : IsFirst (record_fault t) (count t) r =
      record { place = i; inside = h; here = e; earlier = λ j l. (sound s.laid.known j).1 (s.sound j l) } in
      (then_some _ _ _).1 (inr ((layout_none t).1 s.laid, (then_some _ _ _).1 (inl ((first_exactly _ _ _).1 f))))

  -- past both tests of a string
  past_string : (i : ℕ) → Fits t (text_at i) → (x y : Refusal) (rest : Option Refusal) {r : Refusal} → rest ≡ some r
      → (when (starts_beyond t (text_at i)) x then when (runs_over t (text_at i)) y then rest) ≡ some r
  past_string i a x y rest e = let p = (string_held t _).1 a in (met _ _ _ _).1 (inr (p.0, (met _ _ _ _).1 (inr (p.1, e))))

  refused_fault : {r : Refusal} → Refused t r → faults t ≡ some r
  unfolding faults layout_fault record_fault tag_fault
  refused_fault (table.too_short a) = from_layout ((met _ _ _ _).1 (inl ((short t).1 a, refl)))
  refused_fault (table.other_format a b) =
      from_layout ((met _ _ _ _).1 (inr ((long t).1 a, (met _ _ _ _).1 (inl ((holds _ (format_known t)).1 b, refl)))))
  refused_fault (table.records_pass a b c) =
      let d = (met _ _ _ _).1 (inl ((records_past t).1 c, refl)) in
      from_layout ((met _ _ _ _).1 (inr ((long t).1 a, (met _ _ _ _).1 (inr ((format_known t).1 b, d)))))
  refused_fault (table.tags_pass a b c d) =
      let e = (met _ _ _ _).1 (inr ((records_within t).1 c, (met _ _ _ _).1 (inl ((tags_past t).1 d, refl)))) in
      from_layout ((met _ _ _ _).1 (inr ((long t).1 a, (met _ _ _ _).1 (inr ((format_known t).1 b, e)))))
  refused_fault (table.misplaced a b c d e) =
      let f = (met _ _ _ _).1 (inr ((tags_within t).1 d, (when_some _ _ _).1 ((storage_misplaced t).1 e, refl))) in
      let g = (met _ _ _ _).1 (inr ((records_within t).1 c, f)) in
      from_layout ((met _ _ _ _).1 (inr ((long t).1 a, (met _ _ _ _).1 (inr ((format_known t).1 b, g)))))
  refused_fault (table.string_beyond {i} s h a) = from_record i s h ((met _ _ _ _).1 (inl ((string_beyond t _).1 a, refl)))
  refused_fault (table.string_runs_over {i} s h a b) =
      from_record i s h ((met _ _ _ _).1 (inr ((string_starts t _).1 a, (met _ _ _ _).1 (inl ((string_over t _).1 (a, b), refl)))))
  refused_fault (table.language_refused {i} s h a b) =
      let l = (holds _ (language_fits t i s.laid.known)).1 b in
      from_record i s h (past_string i a _ _ _ ((met _ _ _ _).1 (inl (l, refl))))
  refused_fault (table.key_below {j} s h a b c) =
      let l = (language_fits t (suc j) s.laid.known).1 b in
      let k = (met _ _ _ _).1 (inl ((key_below t j).1 c, refl)) in
      from_record (suc j) s h (past_string (suc j) a _ _ _ ((met _ _ _ _).1 (inr (l, k))))
  refused_fault (table.key_equal {j} s h a b c) =
      let l = (language_fits t (suc j) s.laid.known).1 b in
      let e = (key_equal t j).1 c in
      let k = (met _ _ _ _).1 (inr (equal_not_below t (suc j) e, (when_some _ _ _).1 (e, refl))) in
      from_record (suc j) s h (past_string (suc j) a _ _ _ ((met _ _ _ _).1 (inr (l, k))))
  refused_fault (table.tag_passes {i} s h a b) =
      let f : IsFirst (tag_fault t) (tag_count t) (carrying 16 i) =
      record { place = i; inside = h; here = (when_some _ _ _).1 ((string_past t _).1 b, refl); earlier = λ j l. (tag_none t j).1 (a j l) } in
      let r = (first_all _ _).1 (λ j l. (sound s.laid.known j).1 (s.sound j l)) in
      (then_some _ _ _).1 (inr ((layout_none t).1 s.laid, (then_some _ _ _).1 (inr (r, (first_exactly _ _ _).1 f))))

-- an order of faults that refuses is the table's refusal, and the other way round
pub refused_exactly : (t : List ℕ) (r : Refusal) → (faults t ≡ some r) ↔ Refused t r
refused_exactly t r = (fault_refused t r, refused_fault t)

pub refused_exactly_when : RefusedExactlyWhen check_of
refused_exactly_when t r = (
  λ e. (refused_exactly t r).0 ((unless_refused (faults t) tt _ _).0 e),
  λ f. (unless_refused (faults t) tt _ _).1 ((refused_exactly t r).1 f),
)

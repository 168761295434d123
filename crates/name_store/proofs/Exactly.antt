-- The order of refusals gives what is settled, and nothing else.
-- Assumes nothing.
use Prim.Native.Nat.{ℕ, zero, suc, ◌≤◌, ◌<◌}
use mathlib.Core.Path.{◌≡◌, refl, sym, ◌∙◌, subst}
use mathlib.Core.Logic.{inl, inr, ◌↔◌}
use mathlib.Core.Bool.{Bool, true, false, false≢true}
use mathlib.Core.Option.{Option, none, some}
use mathlib.Core.List.{List}
use native.Mathlib.Omega.{arith}
use lib.ListN.{length}
use Rattle.outcomes.specs.Firsts.{when, ◌then◌, first_among, IsFirst}
use Rattle.outcomes.specs.Outcomes.{Refusal, Outcome, refused, refusing}
use Rattle.outcomes.proofs.Laws.{when_none, when_some, passed, met, first_all, first_exactly, passed_on, not_refused, here, past, first_here, first_past}
use Rattle.outcomes.proofs.Tests.{holds}
use Rattle.name_store.specs.declared.Entry.{Entry}
use Rattle.name_store.specs.Entries.{entry_at, text_end}
use Rattle.name_store.specs.Writing.{is_too_many, passes_pool, language_bad, below_before, equals_before, is_too_far, has_no_room, entry_fault, unwritten, write_of}
use Rattle.name_store.specs.WriteSettled as settled
use Rattle.name_store.specs.WriteSettled.{Allowed, Sound, SoundBelow, WriteSettled}
use Rattle.name_store.proofs.Bounds as tests
use Rattle.name_store.proofs.Bounds.{inside_pool, past_pool, language_allowed, not_many, near, far, enough, short, above, first_above, key_below, key_equal, equal_not_below}

module _ (es : List Entry) (p : ℕ) where
  -- an entry without a fault is sound
  pub sound : (i : ℕ) → (entry_fault es p i ≡ none) ↔ Sound es p i
  unfolding entry_fault
  sound i = (
    (λ e.
        let a = (passed _ _ _).0 e in
        let b = (passed _ _ _).0 a.1 in
        let c = (passed _ _ _).0 b.1 in
        let d = (passed _ _ _).0 c.1 in
        record {
          inside = (inside_pool p _).0 a.0;
          language = (language_allowed _).0 b.0;
          order = (above es i).0 (c.0, d.0);
          near = (near es i).0 ((when_none _ _).0 d.1);
        }),
    λ s.
        let o = (above es i).1 s.order in
        let d = (passed _ _ _).1 (o.1, (when_none _ _).1 ((near es i).1 s.near)) in
        let b = (passed _ _ _).1 ((language_allowed _).1 s.language, (passed _ _ _).1 (o.0, d)) in
        (passed _ _ _).1 ((inside_pool p _).1 s.inside, b),
  )

  pub sound_below : length es ≤ 5460 → (n : ℕ) → ((i : ℕ) → i < n → entry_fault es p i ≡ none) → SoundBelow es p n
  sound_below l n f = record { few = l; sound = λ i h. (sound i).0 (f i h) }

  module _ (r : ℕ) where
    abbrev Settles : Outcome ℕ → Type 0
    Settles = WriteSettled es p r

    -- ---- from the order to what is settled

    entry_settles : (i : ℕ) → SoundBelow es p i → i < length es → (x : Refusal) → entry_fault es p i ≡ some x → Settles (refusing x)
    unfolding entry_fault when ◌then◌
    entry_settles i s h x e =
        by (passes_pool p (entry_at es i)) (language_bad (entry_at es i)) (below_before es i) (equals_before es i) (is_too_far es i) refl refl refl refl refl
      where
        -- the first test that holds gives the refusal
        gives : {y : Refusal} → entry_fault es p i ≡ some y → Settles (refusing y) → Settles (refusing x)
        gives {y} d w = let z : y ≡ x = cc in rw (← z) w

        lower : (i : ℕ) → SoundBelow es p i → i < length es → text_end (entry_at es i) ≤ p → Allowed (entry_at es i) → below_before es i ≡ true →
            Settles (refused 17 (some i))
        lower zero s h a l n = absurd (false≢true (sym (first_above es).0 ∙ n))
        lower (suc j) s h a l n = settled.key_below s h a l ((key_below es j).0 n)

        equal : (i : ℕ) → SoundBelow es p i → i < length es → text_end (entry_at es i) ≤ p → Allowed (entry_at es i) → equals_before es i ≡ true →
            Settles (refused 19 (some i))
        equal zero s h a l n = absurd (false≢true (sym (first_above es).1 ∙ n))
        equal (suc j) s h a l n = settled.key_equal s h a l ((key_equal es j).0 n)

        by : (a b c d f : Bool) → passes_pool p (entry_at es i) ≡ a → language_bad (entry_at es i) ≡ b → below_before es i ≡ c → equals_before es i ≡ d → is_too_far es i ≡ f →
            Settles (refusing x)
        by true b c d f q u v w z = gives (simp q) (settled.past_pool s h ((past_pool p _).0 q))
        by false true c d f q u v w z =
            gives (simp (q, u)) (settled.language_refused s h ((inside_pool p _).0 q) ((holds _ (language_allowed _)).0 u))
        by false false true d f q u v w z = gives (simp (q, u, v)) (lower i s h ((inside_pool p _).0 q) ((language_allowed _).0 u) v)
        by false false false true f q u v w z = gives (simp (q, u, v, w)) (equal i s h ((inside_pool p _).0 q) ((language_allowed _).0 u) w)
        by false false false false true q u v w z =
            gives (simp (q, u, v, w, z)) (settled.too_far s h ((inside_pool p _).0 q) ((language_allowed _).0 u) ((above es i).0 (v, w)) ((far es i).0 z))
        by false false false false false q u v w z =
            let none_here : entry_fault es p i ≡ none = simp (q, u, v, w, z) in
            let y : ◌≡◌ {A = ℕ} 0 1 = cc in absurd (omega arith)

    settles : Settles (write_of es p r)
    unfolding write_of unwritten
    settles = at (is_too_many es) refl (first_among (entry_fault es p) (length es)) refl (has_no_room es r) refl
      where
        at : (a : Bool) → is_too_many es ≡ a → (o : Option Refusal) → first_among (entry_fault es p) (length es) ≡ o → (c : Bool) → has_no_room es r ≡ c → Settles (write_of es p r)
        at true e o f c g = subst Settles (sym (passed_on _ (here _ _ _ e))) (settled.too_many ((tests.too_many es).0 e))
        at false e (some x) f c g =
            let k = (first_exactly _ _ _).0 f in
            subst Settles (sym (passed_on _ (past _ _ _ e ∙ first_here _ f)))
            (entry_settles k.place (sound_below ((not_many es).0 e) k.place k.earlier) k.inside x k.here)
        at false e none f true g =
            subst Settles (sym (passed_on _ (past _ _ _ e ∙ first_past _ f ∙ (when_some _ _ _).1 (g, refl))))
            (settled.no_room (sound_below ((not_many es).0 e) (length es) ((first_all _ _).0 f)) ((short es r).0 g))
        at false e none f false g =
            subst Settles (sym (not_refused _ (past _ _ _ e ∙ first_past _ f ∙ (when_none _ _).1 g)))
            (settled.is_written (sound_below ((not_many es).0 e) (length es) ((first_all _ _).0 f)) ((enough es r).0 g))

    -- ---- and back

    from_entry : {x : Refusal} (i : ℕ) → SoundBelow es p i → i < length es → entry_fault es p i ≡ some x → write_of es p r ≡ refusing x
    unfolding write_of unwritten
    from_entry {x} i s h e =
        let f : IsFirst (entry_fault es p) (length es) x = record { place = i; inside = h; here = e; earlier = λ j l. (sound j).1 (s.sound j l) } in
        passed_on _ (past _ _ _ ((not_many es).1 s.few) ∙ first_here _ ((first_exactly _ _ _).1 f))

    -- past 31 and 18
    past_two : (i : ℕ) → text_end (entry_at es i) ≤ p → Allowed (entry_at es i) → (x y : Refusal) (rest : Option Refusal) {z : Refusal} → rest ≡ some z
        → (when (passes_pool p (entry_at es i)) x then when (language_bad (entry_at es i)) y then rest) ≡ some z
    past_two i a l x y rest e = (met _ _ _ _).1 (inr ((inside_pool p _).1 a, (met _ _ _ _).1 (inr ((language_allowed _).1 l, e))))

    -- past every entry
    no_fault : SoundBelow es p (length es) → first_among (entry_fault es p) (length es) ≡ none
    no_fault s = (first_all _ _).1 (λ i l. (sound i).1 (s.sound i l))

    settled_is : {o : Outcome ℕ} → Settles o → write_of es p r ≡ o
    unfolding write_of unwritten entry_fault
    settled_is (settled.too_many a) = passed_on _ (here _ _ _ ((tests.too_many es).1 a))
    settled_is (settled.past_pool {i} s h a) = from_entry i s h ((met _ _ _ _).1 (inl ((past_pool p _).1 a, refl)))
    settled_is (settled.language_refused {i} s h a b) =
        let l = (met _ _ _ _).1 (inl ((holds _ (language_allowed _)).1 b, refl)) in
        from_entry i s h ((met _ _ _ _).1 (inr ((inside_pool p _).1 a, l)))
    settled_is (settled.key_below {j} s h a l k) =
        from_entry (suc j) s h (past_two (suc j) a l _ _ _ ((met _ _ _ _).1 (inl ((key_below es j).1 k, refl))))
    settled_is (settled.key_equal {j} s h a l k) =
        let e = (key_equal es j).1 k in
        let q = (met _ _ _ _).1 (inr (equal_not_below es (suc j) e, (met _ _ _ _).1 (inl (e, refl)))) in
        from_entry (suc j) s h (past_two (suc j) a l _ _ _ q)
    settled_is (settled.too_far {i} s h a l k f) =
        let o = (above es i).1 k in
        let q = (met _ _ _ _).1 (inr (o.1, (when_some _ _ _).1 ((far es i).1 f, refl))) in
        from_entry i s h (past_two i a l _ _ _ ((met _ _ _ _).1 (inr (o.0, q))))
    settled_is (settled.no_room s f) =
        passed_on _ (past _ _ _ ((not_many es).1 s.few) ∙ first_past _ (no_fault s) ∙ (when_some _ _ _).1 ((short es r).1 f, refl))
    settled_is (settled.is_written s f) =
        not_refused _ (past _ _ _ ((not_many es).1 s.few) ∙ first_past _ (no_fault s) ∙ (when_none _ _).1 ((enough es r).1 f))

    -- both ways
    pub write_exactly : (o : Outcome ℕ) → (write_of es p r ≡ o) ↔ WriteSettled es p r o
    write_exactly o = (λ e. subst Settles e settles, settled_is)

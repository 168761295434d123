-- The two sweeps give what is said and what is left, and every visit of them is safe.
-- Assumes nothing.
use Prim.Native.Nat.{ℕ, zero, suc, ◌≤◌, ◌<◌}
use mathlib.Core.Path.{◌≡◌, refl, sym, ◌∙◌, ap, subst}
use mathlib.Core.Bool.{Bool, true, false}
use mathlib.Core.Option.{Option, none, some}
use mathlib.Core.List.{List, ◌++◌}
use native.Mathlib.Decide.{dec_lt, ℕ_discrete}
use native.Mathlib.Omega.{arith}
use lib.ListN.{length, drop}
use lib.Seq.{length-sets}
use Rattle.outcomes.specs.Firsts.{when, ◌then◌, first_among}
use Rattle.outcomes.specs.Outcomes.{Refusal, bare}
use Rattle.outcomes.proofs.Laws.{when_none, when_some, first_all, here, past, first_here, first_past, passed_on, not_refused, Only, only_when, only_then}
use Rattle.name_store.specs.declared.Entry.{Entry}
use Rattle.name_store.specs.Entries.{entry_at, offset_for, size_for, Entries}
use Rattle.name_store.specs.Tables.{table_of}
use Rattle.name_store.specs.Writing.{is_too_many, has_no_room, entry_fault, unwritten, write_of, room_with, room_after}
use Rattle.name_writer.specs.Sweeps.{Work, State, work_at, fault_of, checked_with, visited, sweep, started, begun, stage_says, finished, checked_all, written_all, Safe, Ready}
use Rattle.name_store.specs.WriteSettled.{SoundBelow}
use Rattle.name_store.proofs.Bounds.{not_many, too_many, enough, short}
use Rattle.name_store.proofs.Exactly.{sound_below}
use Rattle.name_store.proofs.Laid.{Within, offset_ends}
use Rattle.name_writer.proofs.Turns.{visit_checks, visit_stays, start_many, start_few, begin_short, begin_room, begin_other}
use Rattle.name_writer.proofs.SweepChecks.{key_before, checked_to, all_sound, Stopped, not_checking, not_writing, stays, one_refused}
use Rattle.name_store.proofs.Stores.{fronted, bytes_to, all_bytes}
use Rattle.name_writer.proofs.SweepWrites.{written_to, all_put}

-- ---- while entries are checked

module _ (es : List Entry) (pool room : List ℕ) where
  -- a visit of an entry that is not to be written does not start to write, and keeps the number of entries
  abbrev Waits : State → Type 0
  Waits s = (s.1.stage ≡ 1 → ⊥) × (s.1.count ≤ 5460)

  checked : (p : ℕ) (w : Work) (i : ℕ) (e : Entry) (r : List ℕ) → w.count ≤ 5460 → (o : Option Refusal) → ((x : Refusal) → o ≡ some x → x.number ≡ 1 → ⊥) → Waits (r, checked_with o w i e)
  unfolding checked_with
  checked p w i e r l none f = (λ q. omega arith, l)
  checked p w i e r l (some x) f = (f x refl, l)

  -- no entry's refusal has the number 1
  not_one : (p key offset i : ℕ) (e : Entry) → Only (λ x. x.number ≡ 1 → ⊥) (fault_of p key offset i e)
  unfolding fault_of
  not_one p key offset i e =
      only_then Not _ _ (only_when Not _ _ (λ z. omega arith)) (only_then Not _ _ (only_when Not _ _ (λ z. omega arith)) (only_then Not _ _ (only_when Not _ _ (λ z. omega arith))
      (only_then Not _ _ (only_when Not _ _ (λ z. omega arith)) (only_when Not _ _ (λ z. omega arith)))))
    where
      Not : Refusal → Type 0
      Not x = x.number ≡ 1 → ⊥

  waits : (i : ℕ) (e : Entry) (s : State) → Waits s → Waits (visited pool i e s)
  waits i e s w = by (ℕ_discrete s.1.stage 0)
    where
      by : Dec (s.1.stage ≡ 0) → Waits (visited pool i e s)
      by (yes q) = rw (visit_checks pool i e s q) (checked (length pool) s.1 i e s.0 w.1 _ (not_one (length pool) s.1.key s.1.offset i e))
      by (no q) = rw (visit_stays pool i e s q w.0) w

  all_wait : (i : ℕ) → Waits (sweep es pool i (room, started (length es)))
  unfolding sweep
  all_wait zero = first (dec_lt 5460 (length es))
    where
      first : Dec (5460 < length es) → Waits (room, started (length es))
      first (yes l) = rw (start_many (length es) l) (λ e. omega arith, omega arith)
      first (no l) = let m : length es ≤ 5460 = omega arith in rw (start_few (length es) m) (λ e. omega arith, m)
  all_wait (suc i) = waits i (entry_at es i) _ (all_wait i)

  pub safe_first : Ready es pool room (started (length es))
  unfolding Ready Safe
  safe_first i l e = absurd ((all_wait i).0 e)

  pub count_few : (checked_all es pool room).1.count ≤ 5460
  count_few = (all_wait (length es)).1

-- ---- both sweeps

module _ (es : List Entry) (pool room : List ℕ) (sixteen : Entries es) where
  abbrev p : ℕ
  p = length pool

  abbrev r : ℕ
  r = length room

  abbrev Stops : State → Refusal → Type 0
  Stops = Stopped pool es room sixteen

  -- ---- how it ends

  -- what the two sweeps leave: a refusal and the room as it was, or the table and its length
  pub data Ends : Type 0 where
    ends_refused : (x : Refusal) → unwritten es p r ≡ some x → Stops (checked_all es pool room) x → Ends
    ends_short : unwritten es p r ≡ some (bare 33) → checked_all es pool room ≡ (room, checked_to es (length es)) → r < size_for es → Ends
    ends_written : unwritten es p r ≡ none → checked_all es pool room ≡ (room, checked_to es (length es)) → size_for es ≤ r → SoundBelow es p (length es) → Ends

  starts : length es ≤ 5460 → ◌≡◌ {A = State} (room, started (length es)) (room, checked_to es 0)
  unfolding offset_for
  starts l = ap (λ (w : Work). (room, w)) (start_few (length es) l)

  -- once stopped, a sweep changes nothing
  idle : (n : ℕ) (s : State) (x : Refusal) → Stops s x → Stops (sweep es pool n s) x
  unfolding sweep
  idle zero s x t = t
  idle (suc n) s x t = stays pool es room sixteen n (entry_at es n) _ x (idle n s x t)

  stopped_many : Stops (room, work_at 30 0 0 0 0) (bare 30)
  unfolding stage_says when ◌then◌
  stopped_many = record { held = refl; says = refl }

  ends : Ends
  unfolding unwritten
  ends = at (is_too_many es) refl (first_among (entry_fault es p) (length es)) refl (has_no_room es r) refl
    where
      swept : length es ≤ 5460 → first_among (entry_fault es p) (length es) ≡ none → checked_all es pool room ≡ (room, checked_to es (length es))
      swept l f = ap (sweep es pool (length es)) (starts l) ∙ all_sound pool es room sixteen (length es) (omega arith) f

      at : (a : Bool) → is_too_many es ≡ a → (o : Option Refusal) → first_among (entry_fault es p) (length es) ≡ o → (c : Bool) → has_no_room es r ≡ c → Ends
      at true e o f c g =
          let m = start_many (length es) ((too_many es).0 e) in
          ends_refused (bare 30) (here _ _ _ e)
          (idle (length es) _ _ (rw m stopped_many))
      at false e (some x) f c g =
          ends_refused x (past _ _ _ e ∙ first_here _ f)
          (subst (λ (s : State). Stops (sweep es pool (length es) s) x) (sym (starts ((not_many es).0 e))) (one_refused pool es room sixteen (length es) x (omega arith) f))
      at false e none f true g =
          ends_short (past _ _ _ e ∙ first_past _ f ∙ (when_some _ _ _).1 (g, refl)) (swept ((not_many es).0 e) f) ((short es r).0 g)
      at false e none f false g =
          ends_written (past _ _ _ e ∙ first_past _ f ∙ (when_none _ _).1 g) (swept ((not_many es).0 e) f) ((enough es r).0 g)
          (sound_below es p ((not_many es).0 e) (length es) ((first_all _ _).0 f))

  -- ---- what is said, and what is left

  abbrev Kept : State → Type 0
  Kept s = (s.0 ≡ room_after es pool room) × (finished s.1 ≡ write_of es p r)

  kept_refused : (s : State) (x : Refusal) → unwritten es p r ≡ some x → Stops s x → Kept s
  unfolding room_after write_of finished
  kept_refused s x e t = (
    t.held ∙ sym (ap (λ (o : Option Refusal). room_with o room (table_of pool es ++ drop (size_for es) room)) e),
    passed_on _ t.says ∙ sym (passed_on _ e),
  )

  kept_written : (w : Within p es (length es)) (last : ℕ) → unwritten es p r ≡ none → size_for es ≤ r → Kept (bytes_to pool es room (length es), written_to pool es room last (length es))
  unfolding room_after write_of finished stage_says when ◌then◌
  kept_written w last e l = (
    all_bytes pool es room w l ∙ sym (ap (λ (o : Option Refusal). room_with o room (table_of pool es ++ drop (size_for es) room)) e),
    not_refused _ refl ∙ sym (not_refused _ e),
  )

  -- between the sweeps: no room, or the front
  lacking : r < size_for es → Stops (begun (room, checked_to es (length es))) (bare 33)
  unfolding stage_says when ◌then◌
  lacking l = rw (begin_short (room, checked_to es (length es)) refl l) (record { held = refl; says = refl })

  abbrev last_key : ℕ
  last_key = key_before es (length es)

  fronts : size_for es ≤ r → begun (room, checked_to es (length es)) ≡ (fronted pool es room, written_to pool es room last_key 0)
  unfolding offset_for
  fronts l = begin_room (room, checked_to es (length es)) refl l

  begun_refused : (s : State) (x : Refusal) → Stops s x → Stops (begun s) x
  begun_refused s x t = rw (begin_other s (not_checking pool es room sixteen s x t)) t

  within : SoundBelow es p (length es) → Within p es (length es)
  within s i l = (s.sound i l).inside

  pub kept_word : ((written_all es pool room).0 ≡ room_after es pool room) × (finished (written_all es pool room).1 ≡ write_of es (length pool) (length room))
  kept_word = by ends
    where
      by : Ends → Kept (written_all es pool room)
      by (ends_refused x e t) = kept_refused _ x e (idle (length es) _ x (begun_refused _ x t))
      by (ends_short e q l) = kept_refused _ (bare 33) e (idle (length es) _ _ (subst (λ (s : State). Stops (begun s) (bare 33)) (sym q) (lacking l)))
      by (ends_written e q l s) =
          subst Kept (sym (ap (λ (t : State). sweep es pool (length es) (begun t)) q ∙ ap (sweep es pool (length es)) (fronts l)
          ∙ all_put pool es room last_key (within s) (length es) (omega arith)))
          (kept_written (within s) last_key e l)

  -- ---- each visit is safe

  -- a state that has stopped asks nothing
  safe_stopped : (s : State) (x : Refusal) → Stops s x → Ready es pool s.0 s.1
  unfolding Ready Safe
  safe_stopped s x t i l e = absurd (not_writing pool es room sixteen _ x (idle i s x t) e)

  safe_put : size_for es ≤ r → SoundBelow es p (length es) → Ready es pool (fronted pool es room) (written_to pool es room last_key 0)
  unfolding Ready Safe
  safe_put h s i l e =
      rw (all_put pool es room last_key (within s) i (omega arith))
      (record {
        few = s.few;
        row = l;
        near = (s.sound i l).near;
        text = (s.sound i l).inside;
        fits = simp length-sets (omega (arith, offset_ends es (length es) i l));
      })

  pub safe_second : Ready es pool (begun (checked_all es pool room)).0 (begun (checked_all es pool room)).1
  safe_second = by ends
    where
      by : Ends → Ready es pool (begun (checked_all es pool room)).0 (begun (checked_all es pool room)).1
      by (ends_refused x e t) = safe_stopped _ x (begun_refused _ x t)
      by (ends_short e q l) = safe_stopped _ (bare 33) (subst (λ (s : State). Stops (begun s) (bare 33)) (sym q) (lacking l))
      by (ends_written e q l s) = subst (λ (t : State). Ready es pool t.0 t.1) (sym (ap begun q ∙ fronts l)) (safe_put l s)

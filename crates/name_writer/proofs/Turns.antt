-- What each step of the sweeps does, case by case: the entry of a definition by tests, for the branch that decides it.
-- Assumes nothing.
use Prim.Native.Nat.{ℕ, ◌+◌, ◌≤◌, ◌<◌}
use mathlib.Core.Path.{◌≡◌, refl, ap}
use mathlib.Core.Option.{Option, none, some}
use mathlib.Core.List.{List}
use lib.ListN.{length}
use lib.Seq.{sets}
use borrow.Author.Tests.{lt-ltb, le-ltb, eq-eqb, ne_eqb}
use Rattle.outcomes.specs.Outcomes.{Refusal}
use Rattle.name_layout.specs.Layout.{record_at}
use Rattle.name_layout.specs.Keys.{packed}
use Rattle.name_store.specs.declared.Entry.{Entry}
use Rattle.name_store.specs.Entries.{key_for}
use Rattle.name_store.specs.Tables.{front_for}
use Rattle.name_writer.specs.Sweeps.{Work, State, work_at, fault_of, checked_with, checked_of, put_of, visited, started, begun}

-- ---- one entry in its turn

module _ (pool : List ℕ) (i : ℕ) (e : Entry) (s : State) where
  pub visit_checks : s.1.stage ≡ 0 → visited pool i e s ≡ (s.0, checked_of (length pool) s.1 i e)
  unfolding visited
  visit_checks q = simp (eq-eqb _ _ q)

  pub visit_puts : s.1.stage ≡ 1 → visited pool i e s ≡ put_of pool i e s
  unfolding visited
  visit_puts q = rw q refl

  pub visit_stays : (s.1.stage ≡ 0 → ⊥) → (s.1.stage ≡ 1 → ⊥) → visited pool i e s ≡ s
  unfolding visited
  visit_stays q r = simp (ne_eqb _ _ q, ne_eqb _ _ r)

-- checked
module _ (p : ℕ) (w : Work) (i : ℕ) (e : Entry) where
  abbrev fault : Option Refusal
  fault = fault_of p w.key w.offset i e

  pub check_sound : fault ≡ none → checked_of p w i e ≡ work_at 0 0 (packed (key_for e)) (w.offset + e.length) w.count
  unfolding checked_with
  check_sound q = ap (λ (o : Option Refusal). checked_with o w i e) q

  pub check_refused : {x : Refusal} → fault ≡ some x → checked_of p w i e ≡ work_at x.number i w.key w.offset w.count
  unfolding checked_with
  check_refused q = ap (λ (o : Option Refusal). checked_with o w i e) q

-- ---- before, between and after

pub start_many : (n : ℕ) → 5460 < n → started n ≡ work_at 30 0 0 0 0
unfolding started
start_many n l = simp (lt-ltb 5460 n l)

pub start_few : (n : ℕ) → n ≤ 5460 → started n ≡ work_at 0 0 0 0 n
unfolding started
start_few n l = simp (le-ltb 5460 n l)

module _ (s : State) where
  abbrev size : ℕ
  size = record_at s.1.count + s.1.offset

  pub begin_short : s.1.stage ≡ 0 → length s.0 < size → begun s ≡ (s.0, work_at 33 0 s.1.key s.1.offset s.1.count)
  unfolding begun
  begin_short q l = simp (eq-eqb _ _ q, lt-ltb (length s.0) size l)

  pub begin_room : s.1.stage ≡ 0 → size ≤ length s.0 → begun s ≡ (sets s.0 0 (front_for s.1.count), work_at 1 0 s.1.key 0 s.1.count)
  unfolding begun
  begin_room q l = simp (eq-eqb _ _ q, le-ltb (length s.0) size l)

  pub begin_other : (s.1.stage ≡ 0 → ⊥) → begun s ≡ s
  unfolding begun
  begin_other q = simp (ne_eqb _ _ q)

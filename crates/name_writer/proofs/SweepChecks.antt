-- The sweep that checks ends where no entry has a fault, or at the first that has one.
-- Assumes nothing.
use Prim.Native.Nat.{ℕ, zero, suc, ◌-◌, ◌≤◌, ◌<◌}
use mathlib.Core.Path.{◌≡◌, refl, sym, ◌∙◌, ap, subst}
use mathlib.Core.Option.{Option, none, some}
use mathlib.Core.List.{List}
use native.Mathlib.Omega.{arith}
use lib.ListN.{length}
use Rattle.outcomes.specs.Firsts.{when, ◌then◌, first_among}
use Rattle.outcomes.specs.Outcomes.{Refusal, carrying}
use Rattle.outcomes.proofs.Laws.{then_none, first_here, first_past, Only, only_when, only_then}
use Rattle.name_layout.specs.Keys.{packed}
use Rattle.name_layout.proofs.Keys.{Small, below_packed, same_packed}
use Rattle.name_store.specs.declared.Entry.{Entry}
use Rattle.name_store.specs.Entries.{entry_at, key_for, offset_for, Sixteen, Entries}
use Rattle.name_store.specs.Writing.{below_before, equals_before, is_too_far, entry_fault}
use Rattle.name_writer.specs.Sweeps.{Work, State, work_at, fault_of, visited, sweep, stage_says}
use Rattle.name_writer.proofs.Turns.{visit_checks, visit_stays, check_sound, check_refused}

-- the key before entry i, if there is one
abbrev pub key_before : List Entry → ℕ → ℕ
key_before es zero = 0
key_before es (suc i) = packed (key_for (entry_at es i))

-- the work after i entries without a fault
abbrev pub checked_to : List Entry → ℕ → Work
checked_to es i = work_at 0 0 (key_before es i) (offset_for es i) (length es)

small : (e : Entry) → Sixteen e → Small (key_for e)
small e s = record { platform = s.platform; encoding = s.encoding; language = s.language; name = s.name }

module _ (pool : List ℕ) (es : List Entry) (room : List ℕ) (sixteen : Entries es) where
  abbrev p : ℕ
  p = length pool

  -- there, the fault is that of the order
  fault_is : (i : ℕ) → i < length es → fault_of p (key_before es i) (offset_for es i) i (entry_at es i) ≡ entry_fault es p i
  unfolding fault_of entry_fault below_before equals_before is_too_far
  fault_is zero l = refl
  fault_is (suc i) l =
      let z : suc i - 1 ≡ i = omega arith in
      let a = small (entry_at es (suc i)) (sixteen (suc i) l) in
      let b = small (entry_at es i) (sixteen i (omega arith)) in
      rw (z, below_packed a b, same_packed a b) refl

  -- one more
  step_sound : (i : ℕ) → i < length es → entry_fault es p i ≡ none → visited pool i (entry_at es i) (room, checked_to es i) ≡ (room, checked_to es (suc i))
  unfolding offset_for
  step_sound i l a =
      visit_checks pool i (entry_at es i) (room, checked_to es i) refl
      ∙ ap (λ (w : Work). (room, w)) (check_sound p (checked_to es i) i (entry_at es i) (fault_is i l ∙ a))

  pub all_sound : (i : ℕ) → i ≤ length es → first_among (entry_fault es p) i ≡ none → sweep es pool i (room, checked_to es 0) ≡ (room, checked_to es i)
  unfolding sweep first_among
  all_sound zero l a = refl
  all_sound (suc i) l a =
      let b = (then_none (first_among (entry_fault es p) i) (entry_fault es p i)).0 a in
      ap (visited pool i (entry_at es i)) (all_sound i (omega arith) b.0) ∙ step_sound i l b.1

  -- ---- once an entry is refused

  -- the room is as it was, and the stage says the refusal
  pub record Stopped (s : State) (x : Refusal) : Type 0 where
    pub held : s.0 ≡ room
    pub says : stage_says s.1.stage s.1.entry ≡ some x

  -- that is no stage of checking or writing
  pub not_checking : (s : State) (x : Refusal) → Stopped s x → s.1.stage ≡ 0 → ⊥
  unfolding stage_says when ◌then◌
  not_checking s x t e =
      let q : ◌≡◌ {A = Option Refusal} none (some x) = subst (λ (n : ℕ). stage_says n s.1.entry ≡ some x) e t.says in
      let z : ◌≡◌ {A = ℕ} 0 1 = cc in omega arith

  pub not_writing : (s : State) (x : Refusal) → Stopped s x → s.1.stage ≡ 1 → ⊥
  unfolding stage_says when ◌then◌
  not_writing s x t e =
      let q : ◌≡◌ {A = Option Refusal} none (some x) = subst (λ (n : ℕ). stage_says n s.1.entry ≡ some x) e t.says in
      let z : ◌≡◌ {A = ℕ} 0 1 = cc in omega arith

  pub stays : (i : ℕ) (e : Entry) (s : State) (x : Refusal) → Stopped s x → Stopped (visited pool i e s) x
  stays i e s x t = rw (visit_stays pool i e s (not_checking s x t) (not_writing s x t)) t

  -- an entry's refusals are said by their numbers
  says_31 : (i : ℕ) → stage_says 31 i ≡ some (carrying 31 i)
  unfolding stage_says when ◌then◌
  says_31 i = refl

  says_18 : (i : ℕ) → stage_says 18 i ≡ some (carrying 18 i)
  unfolding stage_says when ◌then◌
  says_18 i = refl

  says_17 : (i : ℕ) → stage_says 17 i ≡ some (carrying 17 i)
  unfolding stage_says when ◌then◌
  says_17 i = refl

  says_19 : (i : ℕ) → stage_says 19 i ≡ some (carrying 19 i)
  unfolding stage_says when ◌then◌
  says_19 i = refl

  says_32 : (i : ℕ) → stage_says 32 i ≡ some (carrying 32 i)
  unfolding stage_says when ◌then◌
  says_32 i = refl

  entry_says : (i : ℕ) → Only (λ x. stage_says x.number i ≡ some x) (entry_fault es p i)
  unfolding entry_fault
  entry_says i =
      only_then Says _ _ (only_when Says _ _ (says_31 i)) (only_then Says _ _ (only_when Says _ _ (says_18 i)) (only_then Says _ _ (only_when Says _ _ (says_17 i))
      (only_then Says _ _ (only_when Says _ _ (says_19 i)) (only_when Says _ _ (says_32 i)))))
    where
      Says : Refusal → Type 0
      Says x = stage_says x.number i ≡ some x

  refusal_found : (i : ℕ) (x : Refusal) → i < length es → entry_fault es p i ≡ some x → Stopped (visited pool i (entry_at es i) (room, checked_to es i)) x
  refusal_found i x l a =
      let d = visit_checks pool i (entry_at es i) (room, checked_to es i) refl
      ∙ ap (λ (w : Work). (room, w)) (check_refused p (checked_to es i) i (entry_at es i) (fault_is i l ∙ a)) in
      rw d (record { held = refl; says = entry_says i x a })

  pub one_refused : (i : ℕ) (x : Refusal) → i ≤ length es → first_among (entry_fault es p) i ≡ some x → Stopped (sweep es pool i (room, checked_to es 0)) x
  unfolding sweep first_among
  one_refused zero x l a = let z : ◌≡◌ {A = ℕ} 0 1 = cc in absurd (omega arith)
  one_refused (suc i) x l a = at (first_among (entry_fault es p) i) refl a (λ y e. one_refused i y (omega arith) e)
    where
      at : (o : Option Refusal) → first_among (entry_fault es p) i ≡ o → (first_among (entry_fault es p) i then entry_fault es p i) ≡ some x
          → ((y : Refusal) → first_among (entry_fault es p) i ≡ some y → Stopped (sweep es pool i (room, checked_to es 0)) y)
          → Stopped (visited pool i (entry_at es i) (sweep es pool i (room, checked_to es 0))) x
      at none e b f = rw (all_sound i (omega arith) e) (refusal_found i x l (sym (first_past _ e) ∙ b))
      at (some y) e b f = let q : ◌≡◌ {A = Option Refusal} (some y) (some x) = sym (first_here _ e) ∙ b in stays i (entry_at es i) _ x (f x (e ∙ q))

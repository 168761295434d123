-- What a load and an unload answer, and the map after them, is what document 02, Ask 7, settles, and nothing else is.
-- Assumes nothing.
use Prim.Native.Nat.{ℕ, ◌<◌, ◌≤◌}
use mathlib.Core.Path.{◌≡◌, refl, sym, ◌∙◌}
use mathlib.Core.Logic.{◌↔◌}
use mathlib.Core.Bool.{true, false}
use mathlib.Core.Option.{Option, none, some}
use mathlib.Core.List.{List}
use native.Mathlib.Decide.{ℕ_discrete, dec_lt}
use native.Mathlib.Omega.{arith}
use borrow.Author.Tests.{lt-ltb, le-ltb, eq-eqb, ne_eqb}
use Rattle.bigendian.specs.Numbers.{Bytes}
use Rattle.outcomes.specs.Firsts.{when, ◌then◌}
use Rattle.outcomes.specs.Outcomes.{Outcome, refused, answered, accepted, unless}
use Rattle.outcomes.proofs.Tests as tests
use Rattle.choice.specs.Faces.{Face, Slots}
use Rattle.level.specs.Levels.{newest}
use Rattle.face.specs.Reading.{face_in}
use Rattle.face.proofs.Settling.{face_settles, face_settled_is}
use Rattle.chooser.specs.Calls.{taken, put, no_such_slot, before_tables, load_of, emptying, unload_of, done_of, after_load, after_unload}
use Rattle.chooser.specs.Settled.{LoadSettled, level_above, slot_above, slot_taken, of_tables, UnloadSettled, unload_above, unload_empty, unload_done}
use Rattle.chooser.specs.Settled.{OwnSlot, Load, load_fills, load_refused, Unload, unload_empties, unload_refused, LoadsSettled, UnloadsSettled}

-- ---- one slot

pub no_such_exactly : (i : ℕ) → (no_such_slot i ≡ true) ↔ (31 < i)
unfolding no_such_slot
no_such_exactly i = tests.below 31 i

put_own : (m : Slots) (i : ℕ) (x : Option Face) → put m i x i ≡ x
unfolding put
put_own m i x = rw (eq-eqb i i refl)

put_other : (m : Slots) (i : ℕ) (x : Option Face) (j : ℕ) → (j ≡ i → ⊥) → put m i x j ≡ m j
unfolding put
put_other m i x j n = rw (ne_eqb j i n)

-- a slot is written, and no other
pub put_alone : (m : Slots) (i : ℕ) (x : Option Face) → OwnSlot m i x (put m i x)
put_alone m i x = record { own = put_own m i x; alone = put_other m i x }

-- there is no other such map
put_only : (m n : Slots) (i : ℕ) (x : Option Face) → OwnSlot m i x n → (j : ℕ) → put m i x j ≡ n j
put_only m n i x o j = at (ℕ_discrete j i)
  where
    at : Dec (j ≡ i) → put m i x j ≡ n j
    at (yes e) = rw e (put_own m i x ∙ sym o.own)
    at (no e) = put_other m i x j e ∙ sym (o.alone j e)

-- ---- a load

module _ (m : Slots) (i L : ℕ) (b n : List ℕ) where
  load_1 : newest < L → load_of m i L b n ≡ refused 1 none
  unfolding load_of before_tables unless when ◌then◌
  load_1 h = simp (lt-ltb newest L h)

  load_54 : L ≤ newest → 31 < i → load_of m i L b n ≡ refused 54 none
  unfolding load_of before_tables unless when ◌then◌
  load_54 l h = simp (le-ltb newest L l, (no_such_exactly i).1 h)

  slot_there : i ≤ 31 → no_such_slot i ≡ false
  slot_there h = (tests.fails _ (no_such_exactly i)).1 (λ x. omega arith)

  load_53 : {f : Face} → L ≤ newest → i ≤ 31 → m i ≡ some f → load_of m i L b n ≡ refused 53 none
  unfolding load_of before_tables unless when ◌then◌ taken
  load_53 l h e = simp (le-ltb newest L l, slot_there h, e)

  load_free : L ≤ newest → i ≤ 31 → m i ≡ none → load_of m i L b n ≡ face_in L b n
  unfolding load_of before_tables unless when ◌then◌ taken
  load_free l h e = simp (le-ltb newest L l, slot_there h, e)

  settled_here : Bytes n → LoadSettled m i L b n (load_of m i L b n)
  settled_here y = level (dec_lt newest L)
    where
      slot : L ≤ newest → i ≤ 31 → (o : Option Face) → m i ≡ o → LoadSettled m i L b n (load_of m i L b n)
      slot l h none e = rw (load_free l h e) (of_tables l h e (face_settles L b n y))
      slot l h (some f) e = rw (load_53 l h e) (slot_taken l h e)

      number : L ≤ newest → Dec (31 < i) → LoadSettled m i L b n (load_of m i L b n)
      number l (yes h) = rw (load_54 l h) (slot_above l h)
      number l (no h) = slot l (omega arith) (m i) refl

      level : Dec (newest < L) → LoadSettled m i L b n (load_of m i L b n)
      level (yes h) = rw (load_1 h) (level_above h)
      level (no h) = number (omega arith) (dec_lt 31 i)

  settled_is_here : Bytes n → (o : Outcome Face) → LoadSettled m i L b n o → load_of m i L b n ≡ o
  settled_is_here y o (level_above h) = load_1 h
  settled_is_here y o (slot_above l h) = load_54 l h
  settled_is_here y o (slot_taken l h e) = load_53 l h e
  settled_is_here y o (of_tables l h e s) = load_free l h e ∙ face_settled_is L b n y _ s

-- what is answered and what is held after it is settled
pub load_settles : LoadsSettled (λ m i L b n. done_of (load_of m i L b n)) (λ m i L b n. after_load m i (load_of m i L b n))
unfolding done_of after_load
load_settles m i L b n y = at (load_of m i L b n) (settled_here m i L b n y)
  where
    at : (o : Outcome Face) → LoadSettled m i L b n o → Load m i L b n (done_of o) (after_load m i o)
    at (answered f) s = load_fills s (put_alone m i (some f))
    at (refused k c) s = load_refused s (λ j. refl)

-- and nothing else is
pub load_settled_is : (m : Slots) (i L : ℕ) (b n : List ℕ) → Bytes n → (o : Outcome (Unit {0})) (after : Slots) → Load m i L b n o after →
    (done_of (load_of m i L b n) ≡ o) × ((j : ℕ) → after_load m i (load_of m i L b n) j ≡ after j)
unfolding done_of after_load
load_settled_is m i L b n y o after (load_fills {f} s w) = rw (settled_is_here m i L b n y _ s) (refl, put_only m after i (some f) w)
load_settled_is m i L b n y o after (load_refused s u) = rw (settled_is_here m i L b n y _ s) (refl, λ j. sym (u j))

-- ---- an unload

module _ (m : Slots) (i : ℕ) where
  unload_54 : 31 < i → unload_of m i ≡ refused 54 none
  unfolding unload_of emptying unless when ◌then◌
  unload_54 h = simp ((no_such_exactly i).1 h)

  unload_55 : i ≤ 31 → m i ≡ none → unload_of m i ≡ refused 55 none
  unfolding unload_of emptying unless when ◌then◌ taken
  unload_55 h e = simp ((tests.fails _ (no_such_exactly i)).1 (λ x. omega arith), e)

  unload_taken : {f : Face} → i ≤ 31 → m i ≡ some f → unload_of m i ≡ accepted
  unfolding unload_of emptying unless when ◌then◌ taken
  unload_taken h e = simp ((tests.fails _ (no_such_exactly i)).1 (λ x. omega arith), e)

  unload_here : UnloadSettled m i (unload_of m i)
  unload_here = number (dec_lt 31 i)
    where
      slot : i ≤ 31 → (o : Option Face) → m i ≡ o → UnloadSettled m i (unload_of m i)
      slot h none e = rw (unload_55 h e) (unload_empty h e)
      slot h (some f) e = rw (unload_taken h e) (unload_done h e)

      number : Dec (31 < i) → UnloadSettled m i (unload_of m i)
      number (yes h) = rw (unload_54 h) (unload_above h)
      number (no h) = slot (omega arith) (m i) refl

  unload_is_here : (o : Outcome (Unit {0})) → UnloadSettled m i o → unload_of m i ≡ o
  unload_is_here o (unload_above h) = unload_54 h
  unload_is_here o (unload_empty h e) = unload_55 h e
  unload_is_here o (unload_done h e) = unload_taken h e

pub unload_settles : UnloadsSettled unload_of (λ m i. after_unload m i (unload_of m i))
unfolding after_unload
unload_settles m i = at (unload_of m i) (unload_here m i)
  where
    at : (o : Outcome (Unit {0})) → UnloadSettled m i o → Unload m i o (after_unload m i o)
    at (answered tt) s = unload_empties s (put_alone m i none)
    at (refused k c) s = unload_refused s (λ j. refl)

pub unload_settled_is : (m : Slots) (i : ℕ) (o : Outcome (Unit {0})) (after : Slots) → Unload m i o after →
    (unload_of m i ≡ o) × ((j : ℕ) → after_unload m i (unload_of m i) j ≡ after j)
unfolding after_unload
unload_settled_is m i o after (unload_empties s w) = rw (unload_is_here m i _ s) (refl, put_only m after i none w)
unload_settled_is m i o after (unload_refused s u) = rw (unload_is_here m i _ s) (refl, λ j. sym (u j))

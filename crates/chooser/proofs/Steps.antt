-- The calls as the code makes them: what it finds at the place of a slot is what the map holds there, and what it writes back is the map after the call.
-- Assumes nothing.
use Prim.Native.Nat.{ℕ, ◌<◌, ◌≤◌}
use mathlib.Core.Path.{◌≡◌, refl, sym, ap, ◌∙◌}
use mathlib.Core.Bool.{Bool, true, false}
use mathlib.Core.Option.{Option, none, some}
use mathlib.Core.List.{List}
use native.Mathlib.Decide.{dec_lt}
use native.Mathlib.Omega.{arith}
use borrow.Author.Tests.{lt-ltb, le-ltb}
use lib.Dec.{ltb}
use lib.ListN.{length, set}
use Rattle.outcomes.specs.Firsts.{when, ◌then◌}
use Rattle.outcomes.specs.Outcomes.{bare, Outcome, refused, answered, accepted, refusing, unless}
use Rattle.outcomes.proofs.Tests as tests
use Rattle.outcomes.proofs.Laws.{unless_answered, passed}
use Rattle.choice.specs.Faces.{Face}
use Rattle.level.specs.Levels.{newest}
use Rattle.face.specs.Reading.{face_in}
use Rattle.chooser.specs.declared.Slot.{Slot}
use Rattle.chooser.specs.declared.Rack.{Rack}
use Rattle.chooser.specs.Racks.{slot_of, held}
use Rattle.chooser.specs.Calls.{taken, put, no_such_slot, before_tables, load_of, emptying, unload_of, after_load, after_unload, slot_after, slot_left}
use Rattle.std.specs.Prelude.{Result, Ok, Err, IsErrAnd}
use Rattle.face.specs.declared.FaceAt.{FaceAt}
use Rattle.chooser.specs.declared.Refusal.{Refusal}
use Rattle.chooser.specs.Replies.{said_refusal, said_reading, ReadingFits, Place}
use Rattle.chooser.proofs.Settling.{no_such_exactly}
use Rattle.chooser.proofs.Slots.{held_set, put_itself}

-- whether a slot that is not there is taken does not matter
before_far : (s t : Bool) (i L : ℕ) → 31 < i → before_tables s i L ≡ before_tables t i L
unfolding before_tables when ◌then◌
before_far s t i L h = rw ((no_such_exactly i).1 h)

emptying_far : (s t : Bool) (i : ℕ) → 31 < i → emptying s i ≡ emptying t i
unfolding emptying when ◌then◌
emptying_far s t i h = rw ((no_such_exactly i).1 h)

-- a face is loaded into a slot that is there
there : (t : Bool) (i L : ℕ) (o : Outcome Face) (f : Face) → unless (before_tables t i L) o ≡ answered f → i ≤ 31
unfolding before_tables
there t i L o f e =
    let p = (passed (ltb newest L) (bare 1) _).0 ((unless_answered _ o f).0 e).0 in
    let q = (tests.fails _ (no_such_exactly i)).0 ((passed (no_such_slot i) (bare 54) _).0 p.1).0 in
    omega arith

emptied_there : (t : Bool) (i : ℕ) → emptying t i ≡ accepted → i ≤ 31
unfolding emptying
emptied_there t i e = let q = (tests.fails _ (no_such_exactly i)).0 ((passed (no_such_slot i) (bare 54) _).0 ((unless_answered _ _ _).0 e).0).0 in omega arith

module _ (r : Rack) (i at : ℕ) (p : Place i at) where
  -- what the code finds, as the map has it
  pub found : (L : ℕ) (b n : List ℕ) → unless (before_tables (taken (held r at)) i L) (face_in L b n) ≡ load_of (held r) i L b n
  unfolding load_of
  found L b n = by (dec_lt 31 i)
    where
      by : Dec (31 < i) → unless (before_tables (taken (held r at)) i L) (face_in L b n) ≡ unless (before_tables (taken (held r i)) i L) (face_in L b n)
      by (yes h) = ap (λ q. unless q (face_in L b n)) (before_far _ _ i L h)
      by (no h) = ap (λ k. unless (before_tables (taken (held r k)) i L) (face_in L b n)) (p.own (omega arith))

  pub unload_is : {t : Bool} {o : Outcome (Unit {0})} → t ≡ taken (held r at) → o ≡ emptying t i → o ≡ unload_of (held r) i
  unfolding unload_of
  unload_is {t} {o} e d = d ∙ ap (λ q. emptying q i) e ∙ by (dec_lt 31 i)
    where
      by : Dec (31 < i) → emptying (taken (held r at)) i ≡ emptying (taken (held r i)) i
      by (yes h) = emptying_far _ _ i h
      by (no h) = ap (λ k. emptying (taken (held r k)) i) (p.own (omega arith))

  -- the slot that is written back makes the map after the call
  module _ (long : length r.slots ≡ 32) where
    written : (s : Slot) {x : Option Face} → slot_of s ≡ x → held (record { slots = set r.slots at s }) ≡ put (held r) at x
    written s e = held_set r at s (omega (arith, p.inside)) ∙ ap (put (held r) at) e

    pub loaded : (L : ℕ) (b n : List ℕ) (s : Slot) → slot_of s ≡ slot_after (held r at) (unless (before_tables (taken (held r at)) i L) (face_in L b n)) →
        held (record { slots = set r.slots at s }) ≡ after_load (held r) i (load_of (held r) i L b n)
    unfolding after_load
    loaded L b n s e = written s e ∙ by (unless (before_tables (taken (held r at)) i L) (face_in L b n)) refl
      where
        by : (o : Outcome Face) → unless (before_tables (taken (held r at)) i L) (face_in L b n) ≡ o → put (held r) at (slot_after (held r at) o) ≡ after_load (held r) i (load_of (held r) i L b n)
        by (answered f) d = ap (λ k. put (held r) k (some f)) (p.own (there _ i L _ f d)) ∙ ap (after_load (held r) i) (sym d ∙ found L b n)
        by (refused k c) d = put_itself (held r) at ∙ ap (after_load (held r) i) (sym d ∙ found L b n)

    pub unloaded : (s : Slot) → slot_of s ≡ slot_left (held r at) (emptying (taken (held r at)) i) → held (record { slots = set r.slots at s }) ≡ after_unload (held r) i (unload_of (held r) i)
    unfolding after_unload
    unloaded s e = written s e ∙ by (emptying (taken (held r at)) i) refl
      where
        by : (o : Outcome (Unit {0})) → emptying (taken (held r at)) i ≡ o → put (held r) at (slot_left (held r at) o) ≡ after_unload (held r) i (unload_of (held r) i)
        by (answered tt) d = ap (λ k. put (held r) k none) (p.own (emptied_there _ i d)) ∙ ap (after_unload (held r) i) (sym d ∙ unload_is refl refl)
        by (refused k c) d = put_itself (held r) at ∙ ap (after_unload (held r) i) (sym d ∙ unload_is refl refl)

-- ---- the refusals, as the code comes to them

module _ (t : Bool) (i L : ℕ) (o : Outcome Face) where
  pub tables_1 : newest < L → unless (before_tables t i L) o ≡ refused 1 none
  unfolding before_tables unless when ◌then◌
  tables_1 h = rw (lt-ltb newest L h)

  pub tables_54 : L ≤ newest → no_such_slot i ≡ true → unless (before_tables t i L) o ≡ refused 54 none
  unfolding before_tables unless when ◌then◌
  tables_54 l h = rw (le-ltb newest L l, h)

  pub tables_53 : L ≤ newest → no_such_slot i ≡ false → t ≡ true → unless (before_tables t i L) o ≡ refused 53 none
  unfolding before_tables unless when ◌then◌
  tables_53 l h e = rw (le-ltb newest L l, h, e)

  pub tables_past : L ≤ newest → no_such_slot i ≡ false → t ≡ false → unless (before_tables t i L) o ≡ o
  unfolding before_tables unless when ◌then◌
  tables_past l h e = rw (le-ltb newest L l, h, e)

module _ (t : Bool) (i : ℕ) where
  pub emptying_54 : no_such_slot i ≡ true → emptying t i ≡ refused 54 none
  unfolding emptying unless when ◌then◌
  emptying_54 h = rw h

  pub emptying_55 : no_such_slot i ≡ false → t ≡ false → emptying t i ≡ refused 55 none
  unfolding emptying unless when ◌then◌
  emptying_55 h e = rw (h, e)

  pub emptying_done : no_such_slot i ≡ false → t ≡ true → emptying t i ≡ accepted
  unfolding emptying unless when ◌then◌
  emptying_done h e = rw (h, e)

-- the place of a slot
pub place_none : (i : ℕ) → no_such_slot i ≡ true → Place i 0
place_none i e = let h = (no_such_exactly i).0 e in record { inside = omega arith; own = λ l. absurd (omega arith) }

pub place_own : (i : ℕ) → no_such_slot i ≡ false → Place i i
place_own i e = let h = (tests.fails _ (no_such_exactly i)).0 e in record { inside = omega arith; own = λ l. refl }

-- an error that is passed on is the answer, and has no text to fit
pub passed_on : (n : List ℕ) (r : Result FaceAt Refusal) (e : Refusal) {o : Outcome Face} → IsErrAnd r (λ x. x ≡ e) → refusing (said_refusal e) ≡ o →
    (said_reading n r ≡ o) × ReadingFits n r
passed_on n (Ok x) e h d = absurd h
passed_on n (Err x) e h d = (ap (λ y. refusing (said_refusal y)) h ∙ d, tt)

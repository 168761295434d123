-- The map that a rack stands for: a slot that is written, a face that is kept, and what a slot holds.
-- Assumes nothing.
use Prim.Native.Nat.{ℕ, ◌+◌, ◌-◌, ◌<◌, ◌≤◌}
use mathlib.Core.Path.{◌≡◌, refl, sym, ap, ◌∙◌}
use mathlib.Core.Bool.{Bool, true, false, cond, not}
use mathlib.Core.Option.{none, some}
use mathlib.Core.List.{List}
use native.Mathlib.Decide.{ℕ_discrete, dec_lt}
use native.Mathlib.Omega.{arith}
use borrow.Author.Tests.{eq-eqb, ne_eqb}
use lib.Dec.{eqb}
use mir.Val.{bool_byte}
use lib.ListN.{length, length-drop, get_or, take, drop, set, replicate, get_or-replicate, get_or-eq_default}
use lib.Seq.{get_or-set_same, get_or-set_other, length-take-le}
use Rattle.choice.specs.Faces.{Face, Slots}
use Rattle.face.specs.declared.FaceAt.{FaceAt}
use Rattle.face.specs.Reading.{unfit}
use Rattle.face.specs.Replies.{face_at, Fits}
use Rattle.face.proofs.Settling.{fit_exactly}
use Rattle.chooser.specs.declared.Slot.{Slot}
use Rattle.chooser.specs.declared.Rack.{Rack}
use Rattle.chooser.specs.Racks.{slot_of, no_slot, held}
use Rattle.chooser.specs.Calls.{nobody, taken, put}

-- two maps are the same where each slot holds the same
pub same_slots : (m n : Slots) → ((j : ℕ) → m j ≡ n j) → m ≡ n
same_slots m n p = λ i j. p j i

-- a slot that is written
pub held_set : (r : Rack) (i : ℕ) (s : Slot) → i < length r.slots → held (record { slots = set r.slots i s }) ≡ put (held r) i (slot_of s)
unfolding held put
held_set r i s h = same_slots _ _ (λ j. at j (ℕ_discrete j i))
  where
    at : (j : ℕ) → Dec (j ≡ i) → slot_of (get_or (set r.slots i s) j no_slot) ≡ cond (eqb j i) (slot_of s) (slot_of (get_or r.slots j no_slot))
    at j (yes e) = rw (e, eq-eqb i i refl) (ap slot_of (get_or-set_same r.slots i s no_slot h))
    at j (no e) = rw (ne_eqb j i e) (ap slot_of (get_or-set_other r.slots i j s no_slot e))

-- a slot that is written with what it held
pub put_itself : (m : Slots) (i : ℕ) → put m i (m i) ≡ m
unfolding put
put_itself m i = same_slots _ _ (λ j. at j (ℕ_discrete j i))
  where
    at : (j : ℕ) → Dec (j ≡ i) → cond (eqb j i) (m i) (m j) ≡ m j
    at j (yes e) = rw (e, eq-eqb i i refl)
    at j (no e) = rw (ne_eqb j i e)

-- slots of which none holds a face
pub held_nobody : (r : Rack) (s : Slot) → slot_of s ≡ none → r.slots ≡ replicate 32 s → held r ≡ nobody
unfolding held nobody slot_of unfit
held_nobody r s e d = same_slots _ _ (λ j. at j (dec_lt j 32))
  where
    at : (j : ℕ) → Dec (j < 32) → slot_of (get_or r.slots j no_slot) ≡ none
    at j (yes h) = ap slot_of (ap (λ l. get_or l j no_slot) d ∙ get_or-replicate 32 j s no_slot h) ∙ e
    at j (no h) = ap slot_of (ap (λ l. get_or l j no_slot) d ∙ get_or-eq_default (replicate 32 s) no_slot {n = j} (omega arith))

-- what a slot holds, by the length of its family
pub taken_is : (s : Slot) → not (unfit s.length) ≡ taken (slot_of s)
unfolding slot_of taken
taken_is s = at (unfit s.length) _
  where
    at : (t : Bool) (f : Face) → not t ≡ taken (cond t none (some f))
    at true f = refl
    at false f = refl

pub slot_none : (s : Slot) → unfit s.length ≡ true → slot_of s ≡ none
unfolding slot_of
slot_none s e = rw e

pub slot_face : (s : Slot) → unfit s.length ≡ false →
    slot_of s ≡ some (record { family = take s.length s.family; weight = s.weight; width = s.width; sloped = not (eqb s.sloped 0) })
unfolding slot_of
slot_face s e = rw e

-- a slope as a number
slope_back : (t : Bool) → not (eqb (bool_byte t) 0) ≡ t
slope_back true = refl
slope_back false = refl

-- a part of a table
pub part_is : (n : List ℕ) (start len : ℕ) → take (start + len - start) (drop start n) ≡ take len (drop start n)
part_is n start len = let e : start + len - start ≡ len = omega arith in rw e

pub part_length : (n : List ℕ) (start len : ℕ) → start + len ≤ length n → length (take (start + len - start) (drop start n)) ≡ len
part_length n start len h = rw (part_is n start len) (length-take-le len (drop start n) (rw length-drop (omega arith)))

-- the slot that holds a face
pub kept_is : (s : Slot) (n : List ℕ) (x : FaceAt) → Fits n x →
    take (length (take (x.start + x.len - x.start) (drop x.start n))) s.family ≡ take (x.start + x.len - x.start) (drop x.start n) →
    s.length ≡ x.len → s.weight ≡ x.weight → s.width ≡ x.width → s.sloped ≡ bool_byte x.sloped → slot_of s ≡ some (face_at n x)
kept_is s n x f t l w v b =
    let u : unfit s.length ≡ false = ap unfit l ∙ (fit_exactly x.len).1 (f.some, f.most) in
    let a : take s.length s.family ≡ take x.len (drop x.start n) =
    ap (λ j. take j s.family) (l ∙ sym (part_length n x.start x.len f.inside)) ∙ t ∙ part_is n x.start x.len in
    let d : not (eqb s.sloped 0) ≡ x.sloped = ap (λ j. not (eqb j 0)) b ∙ slope_back x.sloped in
    slot_face s u ∙ ap some (λ i. record { family = a i; weight = w i; width = v i; sloped = d i })

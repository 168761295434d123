-- The definitions give what is settled and nothing else, whichever tables are compared.
-- Assumes nothing.
use Prim.Native.Nat.{ℕ, ◌*◌, ◌≤◌}
use mathlib.Core.Path.{◌≡◌, refl}
use mathlib.Core.Logic.Iff
use mathlib.Core.Logic.{◌↔◌}
use mathlib.Core.Bool.{Bool, true, false}
use mathlib.Core.Option.{Option, none, some}
use mathlib.Core.List.{List}
use native.Mathlib.Omega.{arith}
use lib.ListN.{length}
use Rattle.outcomes.specs.Firsts.{when, ◌then◌}
use Rattle.outcomes.specs.Outcomes.{Refusal, bare}
use Rattle.comparing.specs.Comparisons.{Neither, Left, Right}
use Rattle.comparing.specs.Lists.{ListOf}
use Rattle.comparing.specs.Rooms.{rows_of, is_too_many, front}
use Rattle.comparing.specs.Comparisons.{Blamed, of, blame, Comparison, listed, refused, answer_of, room_after}
use Rattle.comparing.specs.Settled.{Accepted, Settled, call_refused, left_refused, right_refused, too_many, all_listed}
use Rattle.comparing.proofs.Lists.{one_list}
use Rattle.comparing.proofs.Rooms.{too_many_exactly, enough_exactly, front_rows}

-- a refusal is found exactly when it is given
abbrev pub Exactly : Option Refusal → (Refusal → Type 0) → Type 0
Exactly o Gets = (r : Refusal) → (o ≡ some r) ↔ Gets r

none_accepted : (o : Option Refusal) {Gets : Refusal → Type 0} → Exactly o Gets → o ≡ none → Accepted Gets
none_accepted o x e r g = let q = (x r).1 g in let z : ◌≡◌ {A = ℕ} 0 1 = cc in omega arith

accepted_none : (o : Option Refusal) {Gets : Refusal → Type 0} → Exactly o Gets → Accepted Gets → o ≡ none
accepted_none none x a = refl
accepted_none (some r) x a = absurd (a r ((x r).0 refl))

-- the five ways of a comparison
module _ (call left right : Option Refusal) (differences numbers : ℕ) where
  pub way_call : {r : Refusal} → call ≡ some r → blame call left right differences numbers ≡ some (record { side = Neither; refusal = r })
  unfolding blame of ◌then◌
  way_call e = rw e

  pub way_left : {r : Refusal} → call ≡ none → left ≡ some r → blame call left right differences numbers ≡ some (record { side = Left; refusal = r })
  unfolding blame of ◌then◌
  way_left c e = rw (c, e)

  pub way_right : {r : Refusal} → call ≡ none → left ≡ none → right ≡ some r → blame call left right differences numbers ≡ some (record { side = Right; refusal = r })
  unfolding blame of ◌then◌
  way_right c l e = rw (c, l, e)

  pub way_many : call ≡ none → left ≡ none → right ≡ none → is_too_many differences numbers ≡ true → blame call left right differences numbers ≡ some (record { side = Neither; refusal = bare 29 })
  unfolding blame of ◌then◌ when
  way_many c l r e = rw (c, l, r, e)

  pub way_listed : call ≡ none → left ≡ none → right ≡ none → is_too_many differences numbers ≡ false → blame call left right differences numbers ≡ none
  unfolding blame of ◌then◌ when
  way_listed c l r e = rw (c, l, r, e)

-- what is then answered, and what the room then holds
module _ {N : Type 0} {o : Option Blamed} (differences : ℕ) (rows room : List N) where
  pub is_refused : {b : Blamed} → o ≡ some b → (refused b.side b.refusal ≡ answer_of o differences) × (room ≡ room_after o rows room)
  unfolding answer_of room_after
  is_refused e = rw e (refl, refl)

  pub is_listed : o ≡ none → (listed differences ≡ answer_of o differences) × (front rows room ≡ room_after o rows room)
  unfolding answer_of room_after
  is_listed e = rw e (refl, refl)

-- so many rows are in the room
pub listed_within : (call left right : Option Refusal) (differences numbers n : ℕ) → answer_of (blame call left right differences numbers) differences ≡ listed n → 5 * n ≤ numbers
unfolding answer_of
listed_within call left right differences numbers n e = at call refl left refl right refl (is_too_many differences numbers) refl
  where
    at : (c : Option Refusal) → call ≡ c → (l : Option Refusal) → left ≡ l → (r : Option Refusal) → right ≡ r → (m : Bool) → is_too_many differences numbers ≡ m → 5 * n ≤ numbers
    at (some q) c l b r d m t = let z = rw (way_call call left right differences numbers c) at e in let y : ◌≡◌ {A = ℕ} 0 1 = cc in absurd (omega arith)
    at none c (some q) b r d m t = let z = rw (way_left call left right differences numbers c b) at e in let y : ◌≡◌ {A = ℕ} 0 1 = cc in absurd (omega arith)
    at none c none b (some q) d m t = let z = rw (way_right call left right differences numbers c b d) at e in let y : ◌≡◌ {A = ℕ} 0 1 = cc in absurd (omega arith)
    at none c none b none d true t = let z = rw (way_many call left right differences numbers c b d t) at e in let y : ◌≡◌ {A = ℕ} 0 1 = cc in absurd (omega arith)
    at none c none b none d false t =
        let z = rw (way_listed call left right differences numbers c b d t) at e in
        let y : differences ≡ n = cc in
        omega (arith, (enough_exactly differences numbers).0 t)

-- what two tables and their refusals have to be for a list of differences to be settled
pub record Compares {A N : Type 0} (Call OnLeft OnRight : Refusal → Type 0) (Below : A → A → Type 0) (Differs : A → Type 0) (row : A → List N) (call left right : Option Refusal) (ds : List A) : Type 0 where
  pub on_call : Exactly call Call
  pub on_left : call ≡ none → Exactly left OnLeft
  pub on_right : call ≡ none → Exactly right OnRight
  pub lists : call ≡ none → left ≡ none → right ≡ none → ListOf Below Differs ds
  pub five : (d : A) → length (row d) ≡ 5
  pub asymmetric : (d e : A) → Below d e → Below e d → ⊥

module _ {A N : Type 0} (Call OnLeft OnRight : Refusal → Type 0) (Below : A → A → Type 0) (Differs : A → Type 0) (row : A → List N) (call left right : Option Refusal) (ds : List A) (x : Compares Call OnLeft OnRight Below Differs row call left right ds) (room : List N) where
  abbrev found : Option Blamed
  found = blame call left right (length ds) (length room)

  abbrev Meets : Comparison → List N → Type 0
  Meets = Settled Call OnLeft OnRight Below Differs row room

  pub settles : Meets (answer_of found (length ds)) (room_after found (rows_of row ds) room)
  unfolding answer_of room_after
  settles = at call refl left refl right refl (is_too_many (length ds) (length room)) refl
    where
      at : (c : Option Refusal) → call ≡ c → (l : Option Refusal) → left ≡ l → (r : Option Refusal) → right ≡ r → (m : Bool) → is_too_many (length ds) (length room) ≡ m → Meets (answer_of found (length ds)) (room_after found (rows_of row ds) room)
      at (some q) c l b r d m e = rw (way_call call left right (length ds) (length room) c) (call_refused ((x.on_call q).0 c))
      at none c (some q) b r d m e = rw (way_left call left right (length ds) (length room) c b) (left_refused (none_accepted call x.on_call c) ((x.on_left c q).0 b))
      at none c none b (some q) d m e =
          rw (way_right call left right (length ds) (length room) c b d)
          (right_refused (none_accepted call x.on_call c) (none_accepted left (x.on_left c) b) ((x.on_right c q).0 d))
      at none c none b none d true e =
          rw (way_many call left right (length ds) (length room) c b d e)
          (too_many (none_accepted call x.on_call c) (none_accepted left (x.on_left c) b) (none_accepted right (x.on_right c) d) (x.lists c b d) ((too_many_exactly (length ds) (length room)).0 e))
      at none c none b none d false e =
          rw (way_listed call left right (length ds) (length room) c b d e, front_rows row x.five ds room)
          (all_listed (none_accepted call x.on_call c) (none_accepted left (x.on_left c) b) (none_accepted right (x.on_right c) d) (x.lists c b d) ((enough_exactly (length ds) (length room)).0 e))

  -- any other list of what differs is this one
  same_list : call ≡ none → left ≡ none → right ≡ none → (es : List A) → ListOf Below Differs es → es ≡ ds
  same_list c l r es y =
      let z = x.lists c l r in
      one_list x.asymmetric es ds y.rising z.rising (λ d. Iff.trans (y.exactly d) (Iff.symm (z.exactly d)))

  pub settled_is : (a : Comparison) (new : List N) → Meets a new → (a ≡ answer_of found (length ds)) × (new ≡ room_after found (rows_of row ds) room)
  unfolding answer_of room_after
  settled_is _ _ (call_refused c) = rw (way_call call left right (length ds) (length room) ((x.on_call _).1 c)) (refl, refl)
  settled_is _ _ (left_refused c l) =
      let c' = accepted_none call x.on_call c in
      rw (way_left call left right (length ds) (length room) c' ((x.on_left c' _).1 l)) (refl, refl)
  settled_is _ _ (right_refused c l r) =
      let c' = accepted_none call x.on_call c in
      rw (way_right call left right (length ds) (length room) c' (accepted_none left (x.on_left c') l) ((x.on_right c' _).1 r)) (refl, refl)
  settled_is _ _ (too_many {ds = es} c l r y m) =
      let c' = accepted_none call x.on_call c in
      let l' = accepted_none left (x.on_left c') l in
      let r' = accepted_none right (x.on_right c') r in
      let z = same_list c' l' r' es y in
      rw (way_many call left right (length ds) (length room) c' l' r' ((too_many_exactly (length ds) (length room)).1 (rw z at m))) (refl, refl)
  settled_is _ _ (all_listed {ds = es} c l r y m) =
      let c' = accepted_none call x.on_call c in
      let l' = accepted_none left (x.on_left c') l in
      let r' = accepted_none right (x.on_right c') r in
      let z = same_list c' l' r' es y in
      rw (way_listed call left right (length ds) (length room) c' l' r' ((enough_exactly (length ds) (length room)).1 (rw z at m)), z, front_rows row x.five ds room) (refl, refl)

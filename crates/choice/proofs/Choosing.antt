-- What a request is answered is what document 02, Ask 7, settles, and nothing else is: going through the slots keeps the face that no other comes before.
-- Assumes nothing.
use Prim.Native.Nat.{ℕ, zero, suc, ◌<◌}
use mathlib.Core.Path.{◌≡◌, refl, sym, ap, ◌∙◌}
use mathlib.Core.Logic.{◌⊎◌, inl, inr, ⊎_elim}
use mathlib.Core.Bool.{Bool, true, false, cond}
use mathlib.Core.Option.{Option, none, some}
use mathlib.Core.List.{List}
use native.Mathlib.Decide.{dec_lt}
use native.Mathlib.Omega.{arith}
use lib.ListN.{get_or}
use Rattle.outcomes.specs.Outcomes.{bare, Outcome, answered, found_or}
use Rattle.same_bytes.specs.Same.{same}
use Rattle.same_bytes.proofs.Strings.{same_exactly}
use Rattle.choice.specs.declared.Want.{Want}
use Rattle.choice.specs.Faces.{Face, Slots}
use Rattle.choice.specs.Ranks.{Placed, numbers_of, before, of_family, earlier, best, request_of}
use Rattle.choice.specs.Settled.{Loaded, Chosen, RequestSettled, no_face, is_chosen, RequestsSettled, DependsOnFaces}
use Rattle.choice.proofs.Orders.{below_trans, below_itself, below_either}
use Rattle.choice.proofs.Exactly.{before_exactly}

-- ---- the order of faces

pub before_trans : (w : Want) (p q r : Placed) → before w p q ≡ true → before w q r ≡ true → before w p r ≡ true
unfolding before
before_trans w p q r = below_trans (numbers_of w p) (numbers_of w q) (numbers_of w r)

pub before_either : (w : Want) (p q : Placed) → (before w p q ≡ true) ⊎ ((before w q p ≡ true) ⊎ (p.slot ≡ q.slot))
unfolding before numbers_of
before_either w p q = ⊎_elim inl (⊎_elim (λ b. inr (inl b)) (λ e. inr (inr (ap (λ l. get_or l 4 0) e)))) (below_either (numbers_of w p) (numbers_of w q) refl)

pub before_itself : (w : Want) (p : Placed) → before w p p ≡ true → ⊥
unfolding before
before_itself w p = below_itself (numbers_of w p)

some_same : {p q : Placed} → some p ≡ some q → p ≡ q
some_same e = cc

no_bool : {A : Type 0} → true ≡ false → A
no_bool e = let z : ◌≡◌ {A = ℕ} 0 1 = cc in absurd (omega arith)

-- ---- the first n slots

module _ (m : Slots) (family : List ℕ) (w : Want) where
  -- one of the first n slots holds a face of the family
  record Held (n i : ℕ) (f : Face) : Type 0 where
    inside : i < n
    holds : m i ≡ some f
    exactly : f.family ≡ family

  -- what is kept after the first n slots
  abbrev Kept : ℕ → Option Placed → Type 0
  Kept n none = (i : ℕ) (f : Face) → Held n i f → ⊥
  Kept n (some p) = Held n p.slot p.face × ((i : ℕ) (f : Face) → Held n i f → before w (record { slot = i; face = f }) p ≡ true → ⊥)

  taken : (i : ℕ) (f : Face) → m i ≡ some f → f.family ≡ family → of_family family i (m i) ≡ some (record { slot = i; face = f })
  unfolding of_family
  taken i f h e = rw (h, (same_exactly f.family family).1 e)

  -- the face that slot i holds
  here : (i : ℕ) (o : Option Face) (p : Placed) → m i ≡ o → of_family family i o ≡ some p → (p.slot ≡ i) × Held (suc i) p.slot p.face
  unfolding of_family
  here i none p h e = let z : ◌≡◌ {A = ℕ} 0 1 = cc in absurd (omega arith)
  here i (some f) p h e = at (same f.family family) refl e
    where
      at : (t : Bool) → same f.family family ≡ t → cond t (some (record { slot = i; face = f })) none ≡ some p → (p.slot ≡ i) × Held (suc i) p.slot p.face
      at true s d =
          let a : i ≡ p.slot = cc in
          let b : f ≡ p.face = cc in
          (sym a, record { inside = omega arith; holds = rw (← a) (h ∙ ap some b); exactly = rw (← b) ((same_exactly f.family family).0 s) })
      at false s d = let z : ◌≡◌ {A = ℕ} 0 1 = cc in absurd (omega arith)

  longer : {n i : ℕ} {f : Face} → Held n i f → Held (suc n) i f
  longer h = record { inside = omega (arith, h.inside); holds = h.holds; exactly = h.exactly }

  -- a face of one slot more is one of those before, or the last slot's
  split : {n i : ℕ} {f : Face} → Held (suc n) i f → Held n i f ⊎ ((i ≡ n) × (of_family family n (m n) ≡ some (record { slot = n; face = f })))
  split {n} {i} {f} h = at (dec_lt i n)
    where
      at : Dec (i < n) → Held n i f ⊎ ((i ≡ n) × (of_family family n (m n) ≡ some (record { slot = n; face = f })))
      at (yes l) = inl (record { inside = l; holds = h.holds; exactly = h.exactly })
      at (no l) = let e : i ≡ n = omega (arith, h.inside) in inr (e, taken n f (rw e at h.holds) h.exactly)

  -- the last slot's face is the one found there
  is_last : {n i : ℕ} {f : Face} {q : Placed} → (i ≡ n) × (of_family family n (m n) ≡ some (record { slot = n; face = f })) → of_family family n (m n) ≡ some q →
      ◌≡◌ {A = Placed} (record { slot = i; face = f }) q
  is_last {n} {i} {f} {q} l e =
      let d : ◌≡◌ {A = Placed} (record { slot = n; face = f }) q = some_same (sym l.1 ∙ e) in
      ap (λ k. record { slot = k; face = f }) l.0 ∙ d

  keeps : (n : ℕ) (o c : Option Placed) → Kept n o → of_family family n (m n) ≡ c → Kept (suc n) (earlier w o c)
  unfolding earlier
  keeps n none none k e = λ i f h. ⊎_elim (k i f) (λ l. let z : ◌≡◌ {A = ℕ} 0 1 = cc in omega arith) (split h)
  keeps n none (some q) k e =
      ((here n (m n) q refl e).1, λ i f h b. ⊎_elim (k i f) (λ l. before_itself w q (sym (ap (λ x. before w x q) (is_last l e)) ∙ b)) (split h))
  keeps n (some p) none k e =
      (longer k.0, λ i f h b. ⊎_elim (λ l. k.1 i f l b) (λ l. let z : ◌≡◌ {A = ℕ} 0 1 = cc in omega arith) (split h))
  keeps n (some p) (some q) k e = at (before w q p) refl
    where
      at : (t : Bool) → before w q p ≡ t → Kept (suc n) (cond t (some q) (some p))
      at true d = (
        (here n (m n) q refl e).1,
        λ i f h b. ⊎_elim (λ l. k.1 i f l (before_trans w _ q p b d)) (λ l. before_itself w q (sym (ap (λ x. before w x q) (is_last l e)) ∙ b)) (split h),
      )
      at false d = (
        longer k.0,
        λ i f h b. ⊎_elim (λ l. k.1 i f l b) (λ l. no_bool (sym b ∙ ap (λ x. before w x p) (is_last l e) ∙ d)) (split h),
      )

  kept : (n : ℕ) → Kept n (best m family w n)
  unfolding best
  kept zero = λ i f h. omega (arith, h.inside)
  kept (suc n) = keeps n (best m family w n) (of_family family n (m n)) (kept n) refl

  to_held : {i : ℕ} {f : Face} → Loaded m family i f → Held 32 i f
  to_held l = record { inside = l.slot; holds = l.holds; exactly = l.exactly }

  of_held : {i : ℕ} {f : Face} → Held 32 i f → Loaded m family i f
  of_held h = record { slot = h.inside; holds = h.holds; exactly = h.exactly }

  -- ---- what a request is answered

  settles_at : (o : Option Placed) → Kept 32 o → RequestSettled m family w (found_or (bare 50) o (λ p. answered p.slot))
  unfolding found_or
  settles_at none k = no_face (λ i f l. k i f (to_held l))
  settles_at (some p) k =
      is_chosen (record { face = p.face; loaded = of_held k.0; first = λ j g l b. k.1 j g (to_held l) ((before_exactly w (record { slot = j; face = g }) p).1 b) })

  settles_here : RequestSettled m family w (request_of m family w)
  unfolding request_of
  settles_here = settles_at (best m family w 32) (kept 32)

  is_at : (q : Option Placed) → Kept 32 q → (o : Outcome ℕ) → RequestSettled m family w o → found_or (bare 50) q (λ p. answered p.slot) ≡ o
  unfolding found_or
  is_at none k o (no_face n) = refl
  is_at none k o (is_chosen c) = absurd (k _ _ (to_held c.loaded))
  is_at (some p) k o (no_face n) = absurd (n _ _ (of_held k.0))
  is_at (some p) k o (is_chosen {i} c) =
      ap answered
      (⊎_elim (λ b. absurd (c.first _ _ (of_held k.0) ((before_exactly w p (record { slot = i; face = c.face })).0 b)))
      (⊎_elim (λ b. absurd (k.1 _ _ (to_held c.loaded) b)) (λ e. e))
      (before_either w p (record { slot = i; face = c.face })))

  once_here : (o : Outcome ℕ) → RequestSettled m family w o → request_of m family w ≡ o
  unfolding request_of
  once_here = is_at (best m family w 32) (kept 32)

-- what is answered is settled
pub request_settles : RequestsSettled request_of
request_settles m family w = settles_here m family w

-- and nothing else is: exactly one slot is chosen, or there is none
pub request_settled_is : (m : Slots) (family : List ℕ) (w : Want) (o : Outcome ℕ) → RequestSettled m family w o → request_of m family w ≡ o
request_settled_is m family w = once_here m family w

-- so no two slots are chosen
pub chosen_once : (m : Slots) (family : List ℕ) (w : Want) (i j : ℕ) → Chosen m family w i → Chosen m family w j → i ≡ j
chosen_once m family w i j a b =
    let e : answered i ≡ answered j = sym (request_settled_is m family w _ (is_chosen a)) ∙ request_settled_is m family w _ (is_chosen b) in
    cc

-- ---- what a request depends on

best_same : (m n : Slots) (family : List ℕ) (w : Want) (k : ℕ) → ((i : ℕ) → i < k → m i ≡ n i) → best m family w k ≡ best n family w k
unfolding best
best_same m n family w zero e = refl
best_same m n family w (suc k) e = rw (best_same m n family w k (λ i h. e i (omega arith)), e k (omega arith))

pub depends_on_faces : DependsOnFaces request_of
unfolding request_of
depends_on_faces m n e family w = rw (best_same m n family w 32 e)

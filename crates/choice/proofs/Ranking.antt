-- The code's one number: its digits are the five numbers of a face, so the lowest is that of the face that comes first.
-- Assumes nothing.
use Prim.Native.Nat.{ℕ, ◌+◌, ◌-◌, ◌*◌, ◌%◌, ◌<◌, ◌≤◌}
use mathlib.Core.Path.{◌≡◌, refl, sym, ap, ◌∙◌}
use mathlib.Core.Logic.Iff
use mathlib.Core.Logic.{inl, inr, ⊎_elim, ◌↔◌}
use mathlib.Core.Bool.{Bool, true, false, cond}
use mathlib.Core.Option.{Option, none, some}
use mathlib.Core.List.{List, [], ◌∷◌, map}
use native.Mathlib.Decide.{dec_lt}
use native.Mathlib.Omega.{arith}
use borrow.Author.Tests.{lt-ltb, le-ltb}
use lib.Dec.{ltb}
use Rattle.outcomes.specs.Outcomes.{bare, refused, answered, found_or}
use Rattle.outcomes.proofs.Tests as tests
use Rattle.choice.specs.declared.Want.{Want}
use Rattle.choice.specs.Faces.{Slots}
use Rattle.choice.specs.Ranks.{Placed, differ, gap, numbers_of, before, earlier, best, request_of, within16, rank, no_rank, Small, rank_of, Stands, lower}
use Rattle.choice.proofs.Orders.{Lexical, Below}
use Rattle.choice.proofs.Exactly.{numbers_below}

-- ---- five digits, the first counting most

module _ (a b c d e a' b' c' d' e' : ℕ) where
  abbrev digits : ℕ
  digits = (((a * 65536 + b) * 65536 + c) * 65536 + d) * 32 + e

  abbrev digits' : ℕ
  digits' = (((a' * 65536 + b') * 65536 + c') * 65536 + d') * 32 + e'

  abbrev Digits : Type 0
  Digits = Below (a ∷ b ∷ c ∷ d ∷ e ∷ []) (a' ∷ b' ∷ c' ∷ d' ∷ e' ∷ [])

  digits_less : b < 65536 → c < 65536 → d < 65536 → e < 32 → b' < 65536 → c' < 65536 → d' < 65536 → e' < 32 → (digits < digits') ↔ Digits
  digits_less hb hc hd he hb' hc' hd' he' = (λ l. one l (dec_lt a a'), back)
    where
      four : digits < digits' → a ≡ a' → b ≡ b' → c ≡ c' → Dec (d < d') → Below (d ∷ e ∷ []) (d' ∷ e' ∷ [])
      four l p q r (yes h) = inl h
      four l p q r (no h) = inr (omega arith, inl (omega arith))

      three : digits < digits' → a ≡ a' → b ≡ b' → Dec (c < c') → Below (c ∷ d ∷ e ∷ []) (c' ∷ d' ∷ e' ∷ [])
      three l p q (yes h) = inl h
      three l p q (no h) = let r : c ≡ c' = omega arith in inr (r, four l p q r (dec_lt d d'))

      two : digits < digits' → a ≡ a' → Dec (b < b') → Below (b ∷ c ∷ d ∷ e ∷ []) (b' ∷ c' ∷ d' ∷ e' ∷ [])
      two l p (yes h) = inl h
      two l p (no h) = let q : b ≡ b' = omega arith in inr (q, three l p q (dec_lt c c'))

      one : digits < digits' → Dec (a < a') → Digits
      one l (yes h) = inl h
      one l (no h) = let p : a ≡ a' = omega arith in inr (p, two l p (dec_lt b b'))

      back : Digits → digits < digits'
      back (inl h) = omega arith
      back (inr (p, inl h)) = omega arith
      back (inr (p, inr (q, inl h))) = omega arith
      back (inr (p, inr (q, inr (r, inl h)))) = omega arith
      back (inr (p, inr (q, inr (r, inr (s, inl h))))) = omega arith
      back (inr (p, inr (q, inr (r, inr (s, inr (t, n)))))) = absurd n

-- ---- a wanted number above 16 bits

gap_above : (w a : ℕ) → a ≤ w → gap w a ≡ w - a
unfolding gap
gap_above w a h = rw (le-ltb w a h)

gap_less : (w a : ℕ) → w < 65536 → a < 65536 → gap w a < 65536
unfolding gap
gap_less w a h k = at (dec_lt w a)
  where
    at : Dec (w < a) → gap w a < 65536
    at (yes l) = rw (lt-ltb w a l) (omega arith)
    at (no l) = rw (le-ltb w a (omega arith)) (omega arith)

pub withins : map within16 (0 ∷ 65535 ∷ 65536 ∷ 4294967295 ∷ []) ≡ 0 ∷ 65535 ∷ 65535 ∷ 65535 ∷ []
unfolding within16
withins = refl

within_above : (w : ℕ) → 65535 < w → within16 w ≡ 65535
unfolding within16
within_above w h = simp (lt-ltb 65535 w h)

within_own : (w : ℕ) → w ≤ 65535 → within16 w ≡ w
unfolding within16
within_own w h = simp (le-ltb 65535 w h)

-- a wanted number above 16 bits is as far from each as 65,535 is, but for the same distance more
module _ (w a b : ℕ) (h : a < 65536) (k : b < 65536) where
  within_less : (gap (within16 w) a < gap (within16 w) b) ↔ (gap w a < gap w b)
  within_less = at (dec_lt 65535 w)
    where
      at : Dec (65535 < w) → (gap (within16 w) a < gap (within16 w) b) ↔ (gap w a < gap w b)
      at (yes l) =
          rw (within_above w l, gap_above 65535 a (omega arith), gap_above 65535 b (omega arith), gap_above w a (omega arith), gap_above w b (omega arith))
          (λ x. omega arith, λ x. omega arith)
      at (no l) = rw (within_own w (omega arith)) (λ x. x, λ x. x)

  within_same : (gap (within16 w) a ≡ gap (within16 w) b) ↔ (gap w a ≡ gap w b)
  within_same = at (dec_lt 65535 w)
    where
      at : Dec (65535 < w) → (gap (within16 w) a ≡ gap (within16 w) b) ↔ (gap w a ≡ gap w b)
      at (yes l) =
          rw (within_above w l, gap_above 65535 a (omega arith), gap_above 65535 b (omega arith), gap_above w a (omega arith), gap_above w b (omega arith))
          (λ x. omega arith, λ x. omega arith)
      at (no l) = rw (within_own w (omega arith)) (λ x. x, λ x. x)

pub within_held : (w : ℕ) → within16 w < 65536
within_held w = at (dec_lt 65535 w)
  where
    at : Dec (65535 < w) → within16 w < 65536
    at (yes l) = rw (within_above w l) (omega arith)
    at (no l) = rw (within_own w (omega arith)) (omega arith)

pub differ_low : (a b : Bool) → differ a b < 2
unfolding differ
differ_low true true = omega arith
differ_low true false = omega arith
differ_low false true = omega arith
differ_low false false = omega arith

-- ---- ranks

lexical_both : {a b a' b' : ℕ} {P Q : Type 0} → (a < b) ↔ (a' < b') → (a ≡ b) ↔ (a' ≡ b') → P ↔ Q → Lexical a b P ↔ Lexical a' b' Q
lexical_both l e f = (⊎_elim (λ x. inl (l.0 x)) (λ r. inr (e.0 r.0, f.0 r.1)), ⊎_elim (λ x. inl (l.1 x)) (λ r. inr (e.1 r.0, f.1 r.1)))

itself : {A : Type 0} → A ↔ A
itself = (λ x. x, λ x. x)

pub rank_exactly : (w : Want) (p q : Placed) → Small p → Small q → (rank_of w p < rank_of w q) ↔ (before w p q ≡ true)
unfolding rank numbers_of
rank_exactly w p q s t =
    Iff.trans
    (digits_less _ _ _ _ _ _ _ _ _ _ (gap_less _ _ (within_held _) s.width) (gap_less _ _ (within_held _) s.weight) s.weight s.slot
    (gap_less _ _ (within_held _) t.width) (gap_less _ _ (within_held _) t.weight) t.weight t.slot)
    (Iff.trans
    (lexical_both itself itself
    (lexical_both (within_less _ _ _ s.width t.width) (within_same _ _ _ s.width t.width)
    (lexical_both (within_less _ _ _ s.weight t.weight) (within_same _ _ _ s.weight t.weight) itself)))
    (Iff.symm (numbers_below w p q)))

pub rank_test : (w : Want) (p q : Placed) → Small p → Small q → ltb (rank_of w q) (rank_of w p) ≡ before w q p
rank_test w p q s t = at (before w q p) refl
  where
    at : (b : Bool) → before w q p ≡ b → ltb (rank_of w q) (rank_of w p) ≡ b
    at true e = (tests.below _ _).1 ((rank_exactly w q p t s).1 e)
    at false e = (tests.fails _ (tests.below _ _)).1 (λ l. no_bool (sym ((rank_exactly w q p t s).0 l) ∙ e))
      where
        no_bool : true ≡ false → ⊥
        no_bool d = let z : ◌≡◌ {A = ℕ} 0 1 = cc in omega arith

-- no rank reaches `no_rank`, and the last digit of one is its slot
pub rank_below : (w : Want) (p : Placed) → Small p → rank_of w p < no_rank
unfolding rank
rank_below w p s =
    let a = differ_low w.sloped p.face.sloped in
    let b = gap_less (within16 w.width) p.face.width (within_held _) s.width in
    let c = gap_less (within16 w.weight) p.face.weight (within_held _) s.weight in
    omega (arith, s.weight, s.slot)

pub rank_slot : (w : Want) (p : Placed) → Small p → rank_of w p % 32 ≡ p.slot
unfolding rank
rank_slot w p s = omega (arith, s.slot)

-- ---- what the code keeps while it goes through the slots

pub stands_lower : (w : Want) (x y : ℕ) (o c : Option Placed) → Stands w x o → Stands w y c → Stands w (lower x y) (earlier w o c)
unfolding earlier
stands_lower w x y none none h k = rw (h, k)
stands_lower w x y none (some q) h k =
    let e : lower x y ≡ y = rw (h, lt-ltb y no_rank (rw k.0 (rank_below w q k.1))) in
    (e ∙ k.0, k.1)
stands_lower w x y (some p) none h k =
    let l = rank_below w p h.1 in
    let e : lower x y ≡ x = rw (k, le-ltb no_rank x (rw h.0 (omega arith))) in
    (e ∙ h.0, h.1)
stands_lower w x y (some p) (some q) h k = at (before w q p) refl
  where
    at : (t : Bool) → before w q p ≡ t → Stands w (lower x y) (cond t (some q) (some p))
    at true e =
        let d : lower x y ≡ y = rw (h.0, k.0, rank_test w p q h.1 k.1, e) in
        (d ∙ k.0, k.1)
    at false e =
        let d : lower x y ≡ x = rw (h.0, k.0, rank_test w p q h.1 k.1, e) in
        (d ∙ h.0, h.1)

module _ (m : Slots) (family : List ℕ) (w : Want) (x : ℕ) (s : Stands w x (best m family w 32)) where
  pub request_none : x ≡ no_rank → request_of m family w ≡ refused 50 none
  unfolding request_of found_or
  request_none e = at (best m family w 32) s
    where
      at : (o : Option Placed) → Stands w x o → found_or (bare 50) o (λ p. answered p.slot) ≡ refused 50 none
      at none h = refl
      at (some p) h = let l = rank_below w p h.1 in absurd (omega (arith, h.0))

  pub request_some : (x ≡ no_rank → ⊥) → request_of m family w ≡ answered (x % 32)
  unfolding request_of found_or
  request_some n = at (best m family w 32) s
    where
      at : (o : Option Placed) → Stands w x o → found_or (bare 50) o (λ p. answered p.slot) ≡ answered (x % 32)
      at none h = absurd (n h)
      at (some p) h = ap answered (sym (ap (λ k. k % 32) h.0 ∙ rank_slot w p h.1))

-- A key's tests decide its order and its equality; and the code's one number stands for the four, since each is below 65,536.
-- Assumes nothing.
use Prim.Native.Nat.{ℕ, ◌+◌, ◌/◌, ◌%◌, ◌<◌}
use mathlib.Core.Path.{◌≡◌, refl, sym, ◌∙◌, ap}
use mathlib.Core.Logic.{◌⊎◌, inl, inr, ⊎_elim, ◌↔◌}
use mathlib.Core.Bool.{Bool, true, false, ◌&&◌}
use mathlib.Core.List.{List}
use native.Mathlib.Decide.{dec_lt, ℕ_discrete}
use native.Mathlib.Omega.{arith}
use lib.Dec.{ltb, eqb}
use Rattle.bigendian.specs.Numbers.{number, Bytes}
use Rattle.bigendian.proofs.Laws.{number_4}
use Rattle.outcomes.proofs.Tests as tests
use Rattle.name_layout.specs.Layout.{language, record_at, string_length, string_offset}
use Rattle.name_layout.specs.Keys.{Key, key_from, key_of, same, lexical, below, Lexical, KeyBelow, packed}
use Rattle.name_layout.proofs.Layouts.{word_lt}

-- ---- the tests

lexical_is : (a b : ℕ) (rest : Bool) {Rest : Type 0} → (rest ≡ true) ↔ Rest → (lexical a b rest ≡ true) ↔ Lexical a b Rest
lexical_is a b rest x = (
  λ e. ⊎_elim (λ l. inl ((tests.below a b).0 l)) (λ r. let p = (tests.and_true (eqb a b) rest).0 r in inr ((tests.equal a b).0 p.0, x.0 p.1))
      ((tests.or_true (ltb a b) (eqb a b && rest)).0 e),
  λ p. (tests.or_true (ltb a b) (eqb a b && rest)).1
      (⊎_elim (λ l. inl ((tests.below a b).1 l)) (λ r. inr ((tests.and_true (eqb a b) rest).1 ((tests.equal a b).1 r.0, x.1 r.1))) p),
)

-- keys are equal by their four numbers
key_equal : {p e l n q f m o : ℕ} → p ≡ q → e ≡ f → l ≡ m → n ≡ o → key_from p e l n ≡ key_from q f m o
key_equal a b c d = rw (a, b, c, d)

self : (n : ℕ) → eqb n n ≡ true
self n = (tests.equal n n).1 refl

module _ (j k : Key) where
  pub below_is : (below j k ≡ true) ↔ KeyBelow j k
  unfolding below
  below_is =
      lexical_is j.platform k.platform _
      (lexical_is j.encoding k.encoding _
      (lexical_is j.language k.language _
      (tests.below j.name k.name)))

  pub same_is : (same j k ≡ true) ↔ (j ≡ k)
  unfolding same
  same_is = (
    λ e.
        let p = (tests.and_true _ _).0 e in
        let q = (tests.and_true _ _).0 p.0 in
        let r = (tests.and_true _ _).0 q.0 in
        let a = (tests.equal j.platform k.platform).0 r.0 in
        let b = (tests.equal j.encoding k.encoding).0 r.1 in
        let c = (tests.equal j.language k.language).0 q.1 in
        let d = (tests.equal j.name k.name).0 p.1 in
        key_equal a b c d,
    λ e. rw e (simp self),
  )

-- ---- of two keys one is below the other or they are equal

lexical_either : (a b : ℕ) {P Q R : Type 0} → P ⊎ (Q ⊎ R) → Lexical a b P ⊎ (((a ≡ b) × Q) ⊎ Lexical b a R)
lexical_either a b {P} {Q} {R} rest = by (dec_lt a b) (dec_lt b a)
  where
    by : Dec (a < b) → Dec (b < a) → Lexical a b P ⊎ (((a ≡ b) × Q) ⊎ Lexical b a R)
    by (yes l) d = inl (inl l)
    by (no l) (yes m) = inr (inr (inl m))
    by (no l) (no m) =
        let e : a ≡ b = omega arith in
        ⊎_elim (λ p. inl (inr (e, p))) (λ s. inr (⊎_elim (λ q. inl (e, q)) (λ r. inr (inr (sym e, r))) s)) rest

lexical_asymmetric : (a b : ℕ) {Rest Other : Type 0} → Lexical a b Rest → Lexical b a Other → (Rest → Other → ⊥) → ⊥
lexical_asymmetric a b p q f =
    ⊎_elim (λ x. ⊎_elim (λ y. omega arith) (λ y. omega arith) q) (λ x. ⊎_elim (λ y. omega arith) (λ y. f x.1 y.1) q) p

module _ (j k : Key) where
  key_either : KeyBelow j k ⊎ ((j ≡ k) ⊎ KeyBelow k j)
  key_either =
      ⊎_elim inl (λ s. inr (⊎_elim (λ e. inl (key_equal e.0 e.1.0 e.1.1.0 e.1.1.1)) inr s))
      (lexical_either j.platform k.platform
      (lexical_either j.encoding k.encoding
      (lexical_either j.language k.language
      (last (dec_lt j.name k.name) (dec_lt k.name j.name)))))
    where
      last : Dec (j.name < k.name) → Dec (k.name < j.name) → (j.name < k.name) ⊎ ((j.name ≡ k.name) ⊎ (k.name < j.name))
      last (yes l) d = inl l
      last (no l) (yes m) = inr (inr m)
      last (no l) (no m) = inr (inl (omega arith))

  -- two keys are not below each other
  pub key_asymmetric : KeyBelow j k → KeyBelow k j → ⊥
  key_asymmetric p q =
      lexical_asymmetric j.platform k.platform p q
      (λ p' q'. lexical_asymmetric j.encoding k.encoding p' q'
      (λ p'' q''. lexical_asymmetric j.language k.language p'' q''
      (λ x y. omega arith)))

-- no key is below itself
pub key_irreflexive : {j k : Key} → j ≡ k → KeyBelow j k → ⊥
key_irreflexive {j} {k} e p = key_asymmetric j k p (rw e (rw e at p))

-- a key is above another exactly when it is neither below it nor equal to it
pub above_is : (j k : Key) → ((below k j ≡ false) × (same k j ≡ false)) ↔ KeyBelow j k
above_is j k = (
  λ e. ⊎_elim (λ p. p) (λ s. absurd (⊎_elim (λ q. (tests.fails _ (same_is k j)).0 e.1 (sym q)) ((tests.fails _ (below_is k j)).0 e.0) s)) (key_either j k),
  λ p. ((tests.fails _ (below_is k j)).1 (key_asymmetric j k p), (tests.fails _ (same_is k j)).1 (λ e. key_irreflexive (sym e) p)),
)

-- ---- the one number

-- each part is a 16-bit number
pub record Small (k : Key) : Type 0 where
  pub platform : k.platform < 65536
  pub encoding : k.encoding < 65536
  pub language : k.language < 65536
  pub name : k.name < 65536

pub key_small : (t : List ℕ) → Bytes t → (i : ℕ) → Small (key_of t i)
unfolding key_of
key_small t b i = record {
  platform = word_lt t b (record_at i + 0);
  encoding = word_lt t b (record_at i + 2);
  language = word_lt t b (record_at i + 4);
  name = word_lt t b (record_at i + 6);
}

module _ {j k : Key} (sj : Small j) (sk : Small k) where
  packed_same : packed j ≡ packed k → j ≡ k
  packed_same h =
      let a : j.platform ≡ k.platform = omega arith in
      let b : j.encoding ≡ k.encoding = omega arith in
      let c : j.language ≡ k.language = omega arith in
      let d : j.name ≡ k.name = omega arith in
      key_equal a b c d

  pub packed_order : (packed j < packed k) ↔ KeyBelow j k
  packed_order = (λ h. first h (dec_lt j.platform k.platform) (dec_lt j.encoding k.encoding) (dec_lt j.language k.language), back)
    where
      first : packed j < packed k → Dec (j.platform < k.platform) → Dec (j.encoding < k.encoding) → Dec (j.language < k.language) → KeyBelow j k
      first h (yes x) y z = inl x
      first h (no x) (yes y) z = inr (omega arith, inl y)
      first h (no x) (no y) (yes z) = inr (omega arith, inr (omega arith, inl z))
      first h (no x) (no y) (no z) = inr (omega arith, inr (omega arith, inr (omega arith, omega arith)))

      back : KeyBelow j k → packed j < packed k
      back = ⊎_elim (λ x. omega arith) (λ x. ⊎_elim (λ y. omega arith) (λ y. ⊎_elim (λ z. omega arith) (λ z. omega arith) y.1) x.1)

  -- the tests of keys are those of their numbers
  pub below_packed : below j k ≡ ltb (packed j) (packed k)
  below_packed = side (dec_lt (packed j) (packed k))
    where
      side : Dec (packed j < packed k) → below j k ≡ ltb (packed j) (packed k)
      side (yes l) = (below_is j k).1 (packed_order.0 l) ∙ sym ((tests.below _ _).1 l)
      side (no l) = (tests.fails _ (below_is j k)).1 (λ p. l (packed_order.1 p)) ∙ sym ((tests.fails _ (tests.below _ _)).1 l)

  pub same_packed : same j k ≡ eqb (packed j) (packed k)
  same_packed = side (ℕ_discrete (packed j) (packed k))
    where
      side : Dec (packed j ≡ packed k) → same j k ≡ eqb (packed j) (packed k)
      side (yes e) = (same_is j k).1 (packed_same e) ∙ sym ((tests.equal _ _).1 e)
      side (no e) = (tests.fails _ (same_is j k)).1 (λ p. e (ap packed p)) ∙ sym ((tests.unequal _ _).1 e)

-- the language stands third in a key
pub key_language : (t : List ℕ) → Bytes t → (i : ℕ) → packed (key_of t i) / 65536 % 65536 ≡ language t i
unfolding key_of
key_language t b i = omega (arith, word_lt t b (record_at i + 4), word_lt t b (record_at i + 6))

-- a string's length and offset are the halves of one number
pub text_halves : (t : List ℕ) → Bytes t → (at : ℕ) → (number 4 t at / 65536 ≡ string_length t at) × (number 4 t at % 65536 ≡ string_offset t at)
text_halves t b at = (omega (arith, number_4 t at, word_lt t b (at + 2)), omega (arith, number_4 t at, word_lt t b (at + 2)))

-- What each refusal's test decides of the entries, where it fails and where it holds.
-- Assumes nothing.
use Prim.Native.Nat.{ℕ, zero, suc, ◌-◌, ◌≤◌, ◌<◌}
use mathlib.Core.Path.{◌≡◌, refl}
use mathlib.Core.Logic.{◌↔◌}
use mathlib.Core.Bool.{true, false}
use mathlib.Core.List.{List}
use native.Mathlib.Decide.{dec_lt}
use native.Mathlib.Omega.{arith}
use lib.ListN.{length}
use borrow.Author.Rules.{rules}
use borrow.Author.Tests.{lt-ltb, le-ltb, le-leb, lt-leb, eq-eqb, ne_eqb}
use Rattle.outcomes.proofs.Tests.{below, not_below, or_false, fails}
use Rattle.name_layout.specs.Keys.{KeyBelow}
use Rattle.name_layout.proofs.Keys.{below_is, same_is, above_is, key_irreflexive}
use Rattle.name_tests.specs.Tests.{forbidden}
use Rattle.name_store.specs.declared.Entry.{Entry}
use Rattle.name_store.specs.Entries.{entry_at, key_for, text_end, offset_for, size_for}
use Rattle.name_store.specs.Writing.{is_too_many, passes_pool, language_bad, below_before, equals_before, is_too_far, has_no_room}
use Rattle.name_store.specs.WriteSettled.{Allowed, Above}

-- for `search`: what closes a need, and the tests that the branches on the way decide
pub ruleset decided = (rules, lt-ltb, le-ltb, le-leb, lt-leb, eq-eqb, ne_eqb)

-- ---- one entry

module _ (p : ℕ) (e : Entry) where
  pub inside_pool : (passes_pool p e ≡ false) ↔ (text_end e ≤ p)
  unfolding passes_pool
  inside_pool = not_below p (text_end e)

  pub past_pool : (passes_pool p e ≡ true) ↔ (p < text_end e)
  unfolding passes_pool
  past_pool = below p (text_end e)

pub language_allowed : (e : Entry) → (language_bad e ≡ false) ↔ Allowed e
unfolding language_bad forbidden
language_allowed e = (
  λ b l. let o = (or_false _ _).0 (simp (le-leb _ _ l) at b) in ((not_below _ _).0 o.0, (not_below _ _).0 o.1),
  λ a. side a (dec_lt e.language 32768),
)
  where
    side : Allowed e → Dec (e.language < 32768) → language_bad e ≡ false
    side a (yes l) = simp (lt-leb _ _ l)
    side a (no l) =
        let h : 32768 ≤ e.language = omega arith in
        simp (le-leb _ _ h) ((or_false _ _).1 ((not_below _ _).1 (a h).0, (not_below _ _).1 (a h).1))

-- ---- the list

module _ (es : List Entry) where
  pub not_many : (is_too_many es ≡ false) ↔ (length es ≤ 5460)
  unfolding is_too_many
  not_many = not_below 5460 (length es)

  pub too_many : (is_too_many es ≡ true) ↔ (5460 < length es)
  unfolding is_too_many
  too_many = below 5460 (length es)

  module _ (i : ℕ) where
    pub near : (is_too_far es i ≡ false) ↔ (offset_for es i ≤ 65535)
    unfolding is_too_far
    near = not_below 65535 (offset_for es i)

    pub far : (is_too_far es i ≡ true) ↔ (65535 < offset_for es i)
    unfolding is_too_far
    far = below 65535 (offset_for es i)

  module _ (r : ℕ) where
    pub enough : (has_no_room es r ≡ false) ↔ (size_for es ≤ r)
    unfolding has_no_room
    enough = not_below r (size_for es)

    pub short : (has_no_room es r ≡ true) ↔ (r < size_for es)
    unfolding has_no_room
    short = below r (size_for es)

  -- neither 17 nor 19 at entry i
  abbrev pub Rises : ℕ → Type 0
  Rises i = (below_before es i ≡ false) × (equals_before es i ≡ false)

  -- the first entry follows none
  pub first_above : Rises 0
  unfolding below_before equals_before
  first_above = (refl, refl)

  -- any other is compared with the one before it
  module _ (i : ℕ) where
    before : suc i - 1 ≡ i
    before = omega arith

    pub key_below : (below_before es (suc i) ≡ true) ↔ KeyBelow (key_for (entry_at es (suc i))) (key_for (entry_at es i))
    unfolding below_before
    key_below = simp (lt-ltb 0 (suc i) (omega arith), before) (below_is _ _)

    pub key_equal : (equals_before es (suc i) ≡ true) ↔ (key_for (entry_at es (suc i)) ≡ key_for (entry_at es i))
    unfolding equals_before
    key_equal = simp (lt-ltb 0 (suc i) (omega arith), before) (same_is _ _)

    rises : Rises (suc i) ↔ KeyBelow (key_for (entry_at es i)) (key_for (entry_at es (suc i)))
    unfolding below_before equals_before
    rises = simp (lt-ltb 0 (suc i) (omega arith), before) (above_is (key_for (entry_at es i)) (key_for (entry_at es (suc i))))

  -- that leaves just the keys that are above the one before
  pub above : (i : ℕ) → Rises i ↔ Above es i
  above i = (there i, back i)
    where
      there : (i : ℕ) → Rises i → Above es i
      there i e j q = rw q ((rises j).0 (rw q at e))

      back : (i : ℕ) → Above es i → Rises i
      back zero f = first_above
      back (suc j) f = (rises j).1 (f j refl)

  -- 19's condition leaves no 17
  pub equal_not_below : (i : ℕ) → equals_before es i ≡ true → below_before es i ≡ false
  equal_not_below zero e = first_above.0
  equal_not_below (suc i) e = (fails _ (key_below i)).1 (key_irreflexive ((key_equal i).0 e))

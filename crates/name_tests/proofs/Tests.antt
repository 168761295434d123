-- What each refusal's test decides of a table, where it fails and where it holds; and the tests that a function decides on its way.
-- Assumes nothing.
use Prim.Native.Nat.{ℕ, zero, suc, ◌+◌, ◌-◌, ◌≤◌, ◌<◌}
use mathlib.Core.Path.{◌≡◌, refl}
use mathlib.Core.Logic.Iff
use mathlib.Core.Logic.{◌⊎◌, inl, inr, ⊎_elim, ◌↔◌}
use mathlib.Core.Bool.{true, false}
use mathlib.Core.List.{List}
use native.Mathlib.Decide.{dec_lt, ℕ_discrete}
use native.Mathlib.Omega.{arith}
use lib.Dec.{leb}
use lib.ListN.{length}
use borrow.Author.Rules.{rules}
use borrow.Author.Tests.{lt-ltb, le-ltb, le-leb, lt-leb, eq-eqb, ne_eqb, leb-false}
use Rattle.bigendian.specs.Numbers.{Bytes}
use Rattle.outcomes.proofs.Tests.{below, not_below, at_most, or_false, or_true, and_true, and_false, fails}
use Rattle.name_layout.specs.Layout.{format, storage, platform, language, records_end, tag_count, tags_end, string_start, string_end}
use Rattle.name_layout.specs.Keys.{key_of, KeyBelow, packed}
use Rattle.name_layout.proofs.Layouts.{format_0}
use Rattle.name_layout.proofs.Keys.{below_is, same_is, above_is, key_irreflexive, packed_order, key_small}
use Rattle.name_tests.specs.Tests.{is_too_short, in_other_format, records_pass_end, tags_pass_end, misplaced}
use Rattle.name_tests.specs.Tests.{starts_beyond, runs_over, string_passes, forbidden, is_language_refused, below_before, equals_before}
use Rattle.name_tests.specs.Languages.{LanguageAllowed}

-- for `search`: what closes a need, and the tests that the branches on the way decide
pub ruleset decided = (rules, lt-ltb, le-ltb, le-leb, lt-leb, eq-eqb, ne_eqb)

module _ (t : List ℕ) where
  pub long : (is_too_short t ≡ false) ↔ (6 ≤ length t)
  unfolding is_too_short
  long = not_below (length t) 6

  pub short : (is_too_short t ≡ true) ↔ (length t < 6)
  unfolding is_too_short
  short = below (length t) 6

  pub format_known : (in_other_format t ≡ false) ↔ ((format t ≡ 0) ⊎ (format t ≡ 1))
  unfolding in_other_format
  format_known = (λ e. side ((not_below _ _).0 e) (dec_lt 0 (format t)), λ k. (not_below 1 (format t)).1 (⊎_elim (λ f. omega arith) (λ f. omega arith) k))
    where
      side : format t ≤ 1 → Dec (0 < format t) → (format t ≡ 0) ⊎ (format t ≡ 1)
      side l (yes p) = inr (omega arith)
      side l (no p) = inl (omega arith)

  pub records_within : (records_pass_end t ≡ false) ↔ (records_end t ≤ length t)
  unfolding records_pass_end
  records_within = not_below (length t) (records_end t)

  pub records_past : (records_pass_end t ≡ true) ↔ (length t < records_end t)
  unfolding records_pass_end
  records_past = below (length t) (records_end t)

  pub tags_within : (tags_pass_end t ≡ false) ↔ (tags_end t ≤ length t)
  unfolding tags_pass_end
  tags_within = not_below (length t) (tags_end t)

  pub tags_past : (tags_pass_end t ≡ true) ↔ (length t < tags_end t)
  unfolding tags_pass_end
  tags_past = below (length t) (tags_end t)

  pub storage_placed : (misplaced t ≡ false) ↔ ((tags_end t ≤ storage t) × (storage t ≤ length t))
  unfolding misplaced
  storage_placed = (
    λ e. let o = (or_false _ _).0 e in ((not_below _ _).0 o.0, (not_below _ _).0 o.1),
    λ p. (or_false _ _).1 ((not_below _ _).1 p.0, (not_below _ _).1 p.1),
  )

  pub storage_misplaced : (misplaced t ≡ true) ↔ ((storage t < tags_end t) ⊎ (length t < storage t))
  unfolding misplaced
  storage_misplaced = (
    λ e. ⊎_elim (λ p. inl ((below _ _).0 p)) (λ p. inr ((below _ _).0 p)) ((or_true _ _).0 e),
    λ s. (or_true _ _).1 (⊎_elim (λ p. inl ((below _ _).1 p)) (λ p. inr ((below _ _).1 p)) s),
  )

  pub string_fits : (at : ℕ) → (string_passes t at ≡ false) ↔ (string_end t at ≤ length t)
  unfolding string_passes
  string_fits at = not_below (length t) (string_end t at)

  pub string_past : (at : ℕ) → (string_passes t at ≡ true) ↔ (length t < string_end t at)
  unfolding string_passes
  string_past at = below (length t) (string_end t at)

  pub string_beyond : (at : ℕ) → (starts_beyond t at ≡ true) ↔ (length t < string_start t at)
  unfolding starts_beyond
  string_beyond at = below (length t) (string_start t at)

  pub string_starts : (at : ℕ) → (starts_beyond t at ≡ false) ↔ (string_start t at ≤ length t)
  unfolding starts_beyond
  string_starts at = not_below (length t) (string_start t at)

  pub string_over : (at : ℕ) → (runs_over t at ≡ true) ↔ ((string_start t at ≤ length t) × (length t < string_end t at))
  unfolding runs_over
  string_over at = Iff.trans (and_true _ _) (Iff.and (at_most (string_start t at) (length t)) (string_past at))

  -- what passes the end and does not start beyond it runs over
  pub string_either : (at : ℕ) → string_passes t at ≡ true → starts_beyond t at ≡ false → runs_over t at ≡ true
  string_either at e f = (string_over at).1 ((string_starts at).0 f, (string_past at).0 e)

  -- neither 15 nor 27, which leaves just the strings that end within storage
  abbrev pub Held : ℕ → Type 0
  Held at = (starts_beyond t at ≡ false) × (runs_over t at ≡ false)

  pub string_held : (at : ℕ) → Held at ↔ (string_end t at ≤ length t)
  unfolding runs_over
  string_held at = (
    λ e. (string_fits at).0 ((and_false _ _).0 e.1 ((at_most _ _).1 ((string_starts at).0 e.0))),
    λ h. ((string_starts at).1 (omega arith), (and_false (leb (string_start t at) (length t)) _).1 (λ d. (string_fits at).1 h)),
  )

  -- neither 17 nor 19 at record i
  abbrev pub Rises : ℕ → Type 0
  Rises i = (below_before t i ≡ false) × (equals_before t i ≡ false)

  -- the first record follows none
  pub first_above : Rises 0
  unfolding below_before equals_before
  first_above = (refl, refl)

  -- any other is compared with the one before it
  module _ (i : ℕ) where
    before : suc i - 1 ≡ i
    before = omega arith

    pub key_below : (below_before t (suc i) ≡ true) ↔ KeyBelow (key_of t (suc i)) (key_of t i)
    unfolding below_before
    key_below = simp (lt-ltb 0 (suc i) (omega arith), before) (below_is _ _)

    pub key_equal : (equals_before t (suc i) ≡ true) ↔ (key_of t (suc i) ≡ key_of t i)
    unfolding equals_before
    key_equal = simp (lt-ltb 0 (suc i) (omega arith), before) (same_is _ _)

    -- that leaves just the keys that are above the one before
    pub above : Rises (suc i) ↔ KeyBelow (key_of t i) (key_of t (suc i))
    unfolding below_before equals_before
    above = simp (lt-ltb 0 (suc i) (omega arith), before) (above_is (key_of t i) (key_of t (suc i)))

  -- 19's condition leaves no 17
  pub equal_not_below : (i : ℕ) → equals_before t i ≡ true → below_before t i ≡ false
  equal_not_below zero e = first_above.0
  equal_not_below (suc i) e = (fails _ (key_below i)).1 (key_irreflexive ((key_equal i).0 e))

  -- by the code's numbers: a key is above the one before it, if there is one
  pub order_ok : Bytes t → (i : ℕ) → (0 < i → packed (key_of t (i - 1)) < packed (key_of t i)) → Rises i
  order_ok b zero f = first_above
  order_ok b (suc i) f = (above i).1 ((packed_order (key_small t b i) (key_small t b (suc i))).0 (rw (before i) at (f (omega arith))))

-- ---- the languages, in either format

module _ (format tags platform language : ℕ) where
  language_plain : language < 32768 → forbidden format tags platform language ≡ false
  unfolding forbidden
  language_plain l = simp (lt-leb _ _ l)

  language_0 : format ≡ 0 → 32768 ≤ language → (forbidden format tags platform language ≡ false) ↔ ((240 ≤ platform) × (platform ≤ 255))
  unfolding forbidden
  language_0 f l = (
    λ e. let o = (or_false _ _).0 (simp (le-leb _ _ l, eq-eqb _ _ f) at e) in ((not_below _ _).0 o.0, (not_below _ _).0 o.1),
    λ p. simp (le-leb _ _ l, eq-eqb _ _ f) ((or_false _ _).1 ((not_below _ _).1 p.0, (not_below _ _).1 p.1)),
  )

  language_1 : (format ≡ 0 → ⊥) → 32768 ≤ language → (forbidden format tags platform language ≡ false) ↔ (language < 32768 + tags)
  unfolding forbidden
  language_1 f l = (
    λ e. leb-false _ _ (simp (le-leb _ _ l, ne_eqb _ _ f) at e),
    λ p. simp (le-leb _ _ l, ne_eqb _ _ f) (lt-leb _ _ p),
  )

module _ (t : List ℕ) (i : ℕ) where
  -- a language below 0x8000 plus the tag count is allowed: format 0 has no tags
  pub language_below : language t i < 32768 + tag_count t → is_language_refused t i ≡ false
  unfolding is_language_refused
  language_below h = side (dec_lt (language t i) 32768) (ℕ_discrete (format t) 0)
    where
      side : Dec (language t i < 32768) → Dec (format t ≡ 0) → forbidden (format t) (tag_count t) (platform t i) (language t i) ≡ false
      side (yes l) f = language_plain _ _ _ _ l
      side (no l) (yes f) = absurd (omega (arith, format_0 t f))
      side (no l) (no f) = let g : 32768 ≤ language t i = omega arith in (language_1 _ _ _ _ f g).1 h

  pub language_fits : (format t ≡ 0) ⊎ (format t ≡ 1) → (is_language_refused t i ≡ false) ↔ LanguageAllowed t i
  unfolding is_language_refused
  language_fits k = (
    (λ e. record { format0 = λ f l. (language_0 _ _ _ _ f l).0 e; format1 = λ f l. (language_1 _ _ _ _ (one f) l).0 e }),
    λ a. side a (dec_lt (language t i) 32768) k,
  )
    where
      one : format t ≡ 1 → format t ≡ 0 → ⊥
      one f z = omega arith

      side : LanguageAllowed t i → Dec (language t i < 32768) → (format t ≡ 0) ⊎ (format t ≡ 1)
          → forbidden (format t) (tag_count t) (platform t i) (language t i) ≡ false
      side a (yes l) f = language_plain _ _ _ _ l
      side a (no l) (inl f) = let h : 32768 ≤ language t i = omega arith in (language_0 _ _ _ _ f h).1 (a.format0 f h)
      side a (no l) (inr f) = let h : 32768 ≤ language t i = omega arith in (language_1 _ _ _ _ (one f) h).1 (a.format1 f h)

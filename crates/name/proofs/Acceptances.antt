-- A table without a fault is one that no test refuses; and what that leaves, for those who read an accepted table.
-- Assumes nothing.
use Prim.Native.Nat.{ℕ, zero, suc, ◌+◌, ◌-◌, ◌/◌, ◌%◌, ◌≤◌, ◌<◌}
use mathlib.Core.Path.{◌≡◌, refl, sym, ◌∙◌, ap}
use mathlib.Core.Logic.{◌↔◌}
use mathlib.Core.Bool.{Bool, true, false, ◌&&◌, ◌||◌, false≢true}
use mathlib.Core.Option.{Option, none, some}
use mathlib.Core.List.{List}
use native.Mathlib.Omega.{arith}
use lib.Dec.{leb, eqb}
use lib.ListN.{length}
use borrow.Author.Count.{below_more}
use Rattle.bigendian.specs.Numbers.{number, Bytes}
use Rattle.outcomes.specs.Firsts.{when}
use Rattle.outcomes.specs.Outcomes.{Refusal, Outcome, refused, accepted, unless}
use Rattle.outcomes.proofs.Laws.{when_none, then_none, passed, first_all, unless_answered, unless_refused, unless_own, Only, only_when, only_then, only_first}
use Rattle.name_layout.specs.Layout.{count, storage, record_at, text_at, tag_count, tag_at, string_end}
use Rattle.name_layout.specs.Keys.{key_of, packed}
use Rattle.name_layout.proofs.Keys.{key_small, packed_order, key_language, text_halves}
use Rattle.name_tests.specs.Tests.{is_language_refused}
use Rattle.name_tests.specs.Steps.{Framed}
use Rattle.name_tests.proofs.Tests.{long, format_known, records_within, tags_within, storage_placed, Held, string_held, string_fits, Rises, above, language_below}
use Rattle.name.specs.declared.Refusal as code
use Rattle.std.specs.Prelude.{Result, Ok, Err}
use Rattle.name.specs.Refusals.{said_refusal, said_check}
use Rattle.name.specs.Acceptance.{layout_fault, record_fault, tag_fault, faults, check_of}
use Rattle.name.specs.Refusing.{Laid}

-- none of 15, 27, 18, 17, 19, by their tests
pub record Sound (t : List ℕ) (i : ℕ) : Type 0 where
  pub string : Held t (text_at i)
  pub language : is_language_refused t i ≡ false
  pub order : Rises t i

-- none of 10 to 19 and 27
pub record Passed (t : List ℕ) : Type 0 where
  pub laid : Laid t
  pub sound : (i : ℕ) → i < count t → Sound t i
  pub tags : (i : ℕ) → i < tag_count t → string_end t (tag_at t i) ≤ length t

-- the numbers of a table's refusals: those of a question itself are others, and none is 0
abbrev pub tables : ℕ → Bool
tables n = (leb 10 n && leb n 19) || eqb n 27

abbrev Numbered : Refusal → Type 0
Numbered r = tables r.number ≡ true

module _ (t : List ℕ) where
  pub layout_none : (layout_fault t ≡ none) ↔ Laid t
  unfolding layout_fault
  layout_none = (
    (λ e.
        let a = (passed _ _ _).0 e in
        let b = (passed _ _ _).0 a.1 in
        let c = (passed _ _ _).0 b.1 in
        let d = (passed _ _ _).0 c.1 in
        record {
          long = (long t).0 a.0;
          known = (format_known t).0 b.0;
          records = (records_within t).0 c.0;
          tags = (tags_within t).0 d.0;
          placed = (storage_placed t).0 ((when_none _ _).0 d.1);
        }),
    λ l.
        let e = (when_none _ _).1 ((storage_placed t).1 l.placed) in
        let d = (passed _ _ _).1 ((tags_within t).1 l.tags, e) in
        let c = (passed _ _ _).1 ((records_within t).1 l.records, d) in
        (passed _ _ _).1 ((long t).1 l.long, (passed _ _ _).1 ((format_known t).1 l.known, c)),
  )

  pub record_none : (i : ℕ) → (record_fault t i ≡ none) ↔ Sound t i
  unfolding record_fault
  record_none i = (
    (λ e.
        let a = (passed _ _ _).0 e in
        let b = (passed _ _ _).0 a.1 in
        let c = (passed _ _ _).0 b.1 in
        let d = (passed _ _ _).0 c.1 in
        let f = (when_none _ _).0 d.1 in
        record { string = (search, search); language = search; order = (search, search) }),
    λ s. (passed _ _ _).1 (search, (passed _ _ _).1 (search, (passed _ _ _).1 (search, (passed _ _ _).1 (search, (when_none _ _).1 search)))),
  )

  pub tag_none : (i : ℕ) → (tag_fault t i ≡ none) ↔ (string_end t (tag_at t i) ≤ length t)
  unfolding tag_fault
  tag_none i = (λ e. (string_fits t _).0 ((when_none _ _).0 e), λ h. (when_none _ _).1 ((string_fits t _).1 h))

  pub no_fault : (faults t ≡ none) ↔ Passed t
  unfolding faults
  no_fault = (
    (λ e.
        let p = (then_none _ _).0 e in
        let q = (then_none _ _).0 p.1 in
        record {
          laid = layout_none.0 p.0;
          sound = λ i h. (record_none i).0 ((first_all _ _).0 q.0 i h);
          tags = λ i h. (tag_none i).0 ((first_all _ _).0 q.1 i h);
        }),
    λ k.
        let r = (first_all _ _).1 (λ i h. (record_none i).1 (k.sound i h)) in
        let s = (first_all _ _).1 (λ i h. (tag_none i).1 (k.tags i h)) in
        (then_none _ _).1 (layout_none.1 k.laid, (then_none _ _).1 (r, s)),
  )

  numbered : Only Numbered (faults t)
  unfolding faults layout_fault record_fault tag_fault
  numbered =
      only_then Numbered _ _ layout (only_then Numbered _ _ (only_first Numbered _ _ each) (only_first Numbered _ _ (λ i. one _ _ refl)))
    where
      one : (test : Bool) (r : Refusal) → tables r.number ≡ true → Only Numbered (when test r)
      one test r e = only_when Numbered test r e

      layout : Only Numbered (layout_fault t)
      layout =
          only_then Numbered _ _ (one _ _ refl) (only_then Numbered _ _ (one _ _ refl)
          (only_then Numbered _ _ (one _ _ refl) (only_then Numbered _ _ (one _ _ refl) (one _ _ refl))))

      each : (i : ℕ) → Only Numbered (record_fault t i)
      each i =
          only_then Numbered _ _ (one _ _ refl) (only_then Numbered _ _ (one _ _ refl)
          (only_then Numbered _ _ (one _ _ refl) (only_then Numbered _ _ (one _ _ refl) (one _ _ refl))))

  -- a number that is no table's does not come from the table
  pub not_tables : (n : ℕ) → tables n ≡ false → (r : Refusal) → faults t ≡ some r → r.number ≡ n → ⊥
  not_tables n l r e d = false≢true (sym l ∙ ap tables (sym d) ∙ numbered r e)

  pub own : {A : Type 0} (o : Outcome A) (n : ℕ) {c : Option ℕ} → tables n ≡ false → (unless (faults t) o ≡ refused n c) ↔ ((faults t ≡ none) × (o ≡ refused n c))
  own o n l = unless_own (faults t) o (not_tables n l)

  pub framed : Laid t → Framed t
  framed l = record { front = l.long; records = l.records; tags = l.tags }

  -- ---- what the code's verdict says

  module _ {v : Result (Unit {0}) code.Refusal} (said : said_check v ≡ check_of t) where
    pub accepted_none : {u : Unit {0}} → v ≡ Ok u → faults t ≡ none
    unfolding unless
    accepted_none e = ((unless_answered (faults t) accepted tt).0 (sym said ∙ ap said_check e)).0

    pub refused_some : {r : code.Refusal} → v ≡ Err r → faults t ≡ some (said_refusal r)
    unfolding unless
    refused_some e = (unless_refused (faults t) tt _ _).0 (sym said ∙ ap said_check e)

  -- ---- what an accepted table holds

  module _ (e : faults t ≡ none) where
    pub accepted_framed : Framed t
    accepted_framed = framed (no_fault.0 e).laid

    pub record_inside : (i : ℕ) → i < count t → record_at i + 12 ≤ length t
    record_inside i h = omega (arith, accepted_framed.records)

    -- by the code's numbers
    pub keys_rise : Bytes t → (i : ℕ) → suc i < count t → packed (key_of t i) < packed (key_of t (suc i))
    keys_rise b i h = (packed_order (key_small t b i) (key_small t b (suc i))).1 ((above t i).0 ((no_fault.0 e).sound (suc i) h).order)

    pub string_inside : (i : ℕ) → i < count t → string_end t (text_at i) ≤ length t
    string_inside i h = (string_held t (text_at i)).0 ((no_fault.0 e).sound i h).string

-- ---- the quick pass

module _ (t : List ℕ) where
  -- none of 17 and 19 at the first n records
  abbrev pub Rise : ℕ → Type 0
  Rise n = (i : ℕ) → i < n → Rises t i

  -- none of 15, 27 and 18 at the first n records
  abbrev pub FitAndSpeak : ℕ → Type 0
  FitAndSpeak n = (i : ℕ) → i < n → (string_end t (text_at i) ≤ length t) × (is_language_refused t i ≡ false)

  -- one record more, if there is one
  pub fit_more : (n : ℕ) → FitAndSpeak (n - 1) → (0 < n → (string_end t (text_at (n - 1)) ≤ length t) × (is_language_refused t (n - 1) ≡ false)) → FitAndSpeak n
  fit_more zero f g = λ i h. absurd (omega arith)
  fit_more (suc n) f g = λ i h.
      let e : suc n - 1 ≡ n = omega arith in
      below_more (λ k. (string_end t (text_at k) ≤ length t) × (is_language_refused t k ≡ false)) n (rw e at f) (rw e at (g (omega arith))) i (omega arith)

  -- both together leave no record's fault
  pub faultless : (n : ℕ) → Rise n → FitAndSpeak n → (i : ℕ) → i < n → record_fault t i ≡ none
  faultless n f g i h = (record_none t i).1 (record { string = (string_held t (text_at i)).1 (g i h).0; language = (g i h).1; order = f i h })

  -- a record by its key's number and its string's: the language in the key below 0x8000 plus the tag count, the string within the table
  pub in_limits : Bytes t → (j : ℕ) {key text : ℕ} → key ≡ packed (key_of t j) → text ≡ number 4 t (text_at j)
      → (key / 65536 % 65536 < 32768 + tag_count t) × (storage t + (text / 65536 + text % 65536) ≤ length t)
      → (string_end t (text_at j) ≤ length t) × (is_language_refused t j ≡ false)
  in_limits b j e f h =
      let halves = text_halves t b (text_at j) in
      (omega (arith, rw (f, halves.0, halves.1) at h.1), language_below t j (rw (e, key_language t b j) at h.0))

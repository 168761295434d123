-- The entries checked in turn are refused as the order of refusals says.
-- Assumes nothing.
use Prim.Native.Nat.{ℕ, zero, suc, ◌+◌, ◌-◌, ◌≤◌, ◌<◌}
use mathlib.Core.Path.{◌≡◌, refl, sym, ◌∙◌, ap, subst}
use mathlib.Core.Bool.{true, false}
use mathlib.Core.Option.{Option, none, some}
use mathlib.Core.List.{List}
use native.Mathlib.Numerals.{add-one}
use native.Mathlib.Omega.{arith}
use lib.Dec.{ltb}
use lib.ListN.{length}
use borrow.Author.Count.{below_more}
use borrow.Author.Tests.{lt-ltb, le-ltb, ltb-false, eq-eqb, ne_eqb}
use Rattle.std.specs.Prelude as code
use Rattle.outcomes.specs.Firsts.{when, ◌then◌, first_among, IsFirst}
use Rattle.outcomes.specs.Outcomes.{Refusal, carrying, refused, answered, refusing}
use Rattle.outcomes.proofs.Laws.{when_none, when_some, passed, first_all, first_exactly, passed_on, not_refused, here, past, first_here, first_past, then_none}
use Rattle.name_layout.specs.Layout.{record_at}
use Rattle.name_layout.specs.Keys.{packed}
use Rattle.name_layout.proofs.Keys.{Small, below_packed, same_packed}
use Rattle.name_store.specs.declared.Entry.{Entry}
use Rattle.name_store.specs.Entries.{entry_at, key_for, offset_for, size_for, Sixteen}
use Rattle.name_store.specs.Writing.{passes_pool, language_bad, below_before, equals_before, is_too_far, entry_fault, unwritten, write_of}
use Rattle.name_store.specs.Faults.{behind, fault_of}
use Rattle.name_store.proofs.Bounds.{not_many, too_many, enough, short}

-- ---- one entry

-- behind the key before it
module _ {before : code.Option ℕ} (key i : ℕ) (after : Option Refusal) where
  pub behind_none : before ≡ code.None → behind before key i after ≡ after
  behind_none q = ap (λ (b : code.Option ℕ). behind b key i after) q

  module _ {last : ℕ} (q : before ≡ code.Some last) where
    behind_last : behind before key i after ≡ behind (code.Some last) key i after
    behind_last = ap (λ (b : code.Option ℕ). behind b key i after) q

    pub behind_equal : key ≡ last → behind before key i after ≡ some (carrying 19 i)
    behind_equal e = behind_last ∙ past _ _ _ (le-ltb key last (omega arith)) ∙ here _ _ _ (eq-eqb key last e)

    pub behind_below : key ≤ last → (key ≡ last → ⊥) → behind before key i after ≡ some (carrying 17 i)
    behind_below l n = behind_last ∙ here _ _ _ (lt-ltb key last (omega arith))

    pub behind_above : last < key → behind before key i after ≡ after
    behind_above l = behind_last ∙ past _ _ _ (le-ltb key last (omega arith)) ∙ past _ _ _ (ne_eqb key last (λ e. omega arith))

module _ (p : ℕ) (before : code.Option ℕ) (offset i : ℕ) (e : Entry) where
  pub fault_pool : passes_pool p e ≡ true → fault_of p before offset i e ≡ some (carrying 31 i)
  unfolding fault_of
  fault_pool a = here _ _ _ a

  module _ (a : passes_pool p e ≡ false) where
    pub fault_language : language_bad e ≡ true → fault_of p before offset i e ≡ some (carrying 18 i)
    unfolding fault_of
    fault_language b = past _ _ _ a ∙ here _ _ _ b

    -- neither 31 nor 18
    pub fault_order : language_bad e ≡ false → fault_of p before offset i e ≡ behind before (packed (key_for e)) i (when (ltb 65535 offset) (carrying 32 i))
    unfolding fault_of
    fault_order b = past _ _ _ a ∙ past _ _ _ b

pub is_far : (offset i : ℕ) → 65535 < offset → when (ltb 65535 offset) (carrying 32 i) ≡ some (carrying 32 i)
is_far offset i l = (when_some _ _ _).1 (lt-ltb 65535 offset l, refl)

pub is_near : (offset i : ℕ) → offset ≤ 65535 → when (ltb 65535 offset) (carrying 32 i) ≡ none
is_near offset i l = (when_none _ _).1 (le-ltb 65535 offset l)

-- an entry without a fault starts near enough
pub fault_near : (p : ℕ) (before : code.Option ℕ) (offset i : ℕ) (e : Entry) → fault_of p before offset i e ≡ none → offset ≤ 65535
unfolding fault_of
fault_near p before offset i e q = at before ((passed _ _ _).0 ((passed _ _ _).0 q).1).1
  where
    at : (b : code.Option ℕ) → behind b (packed (key_for e)) i (when (ltb 65535 offset) (carrying 32 i)) ≡ none → offset ≤ 65535
    at code.None f = ltb-false _ _ ((when_none _ _).0 f)
    at (code.Some last) f = ltb-false _ _ ((when_none _ _).0 ((passed _ _ _).0 ((passed _ _ _).0 f).1).1)

-- ---- the entries

-- the key before entry i, if there is one
abbrev pub key_before : List Entry → ℕ → code.Option ℕ
key_before es zero = code.None
key_before es (suc i) = code.Some (packed (key_for (entry_at es i)))

small : {e : Entry} → Sixteen e → Small (key_for e)
small s = record { platform = s.platform; encoding = s.encoding; language = s.language; name = s.name }

module _ (es : List Entry) (p : ℕ) where
  -- the first follows none
  first_is : fault_of p code.None (offset_for es 0) 0 (entry_at es 0) ≡ entry_fault es p 0
  unfolding fault_of entry_fault below_before equals_before is_too_far when ◌then◌
  first_is = refl

  -- there, the fault is that of the order
  fault_is : (i : ℕ) → ((k : ℕ) → k ≤ i → Sixteen (entry_at es k)) → fault_of p (key_before es i) (offset_for es i) i (entry_at es i) ≡ entry_fault es p i
  unfolding fault_of entry_fault below_before equals_before is_too_far
  fault_is zero sixteen = first_is
  fault_is (suc i) sixteen =
      let z : suc i - 1 ≡ i = omega arith in
      let a = small (sixteen (suc i) (omega arith)) in
      let b = small (sixteen i (omega arith)) in
      let g : 0 < suc i = omega arith in
      rw (z, below_packed a b, same_packed a b, lt-ltb 0 (suc i) g) refl

  -- the entries before i have no fault
  abbrev pub Faultless : ℕ → Type 0
  Faultless i = first_among (entry_fault es p) i ≡ none

  -- where they end: the key before entry i, the offset of its string, and that each before had numbers of 16 bits
  pub record Checked (i : ℕ) (before : code.Option ℕ) (offset : ℕ) : Type 0 where
    pub key : before ≡ key_before es i
    pub strings : offset ≡ offset_for es i
    pub faultless : Faultless i
    pub sixteen : (k : ℕ) → k < i → Sixteen (entry_at es k)

  pub checked_none : Checked 0 code.None 0
  unfolding first_among offset_for
  checked_none = record { key = refl; strings = refl; faultless = refl; sixteen = λ k l. absurd (omega arith) }

  module _ (i : ℕ) {before : code.Option ℕ} {offset : ℕ} (c : Checked i before offset) (s : Sixteen (entry_at es i)) where
    to_here : (k : ℕ) → k < i + 1 → Sixteen (entry_at es k)
    to_here = below_more (λ k. Sixteen (entry_at es k)) _ c.sixteen s

    pub fault_here : fault_of p before offset i (entry_at es i) ≡ entry_fault es p i
    fault_here = rw (c.key, c.strings) (fault_is i (λ k l. to_here k (omega arith)))

    pub checked_more : {key : ℕ} → fault_of p before offset i (entry_at es i) ≡ none → key ≡ packed (key_for (entry_at es i))
        → Checked (i + 1) (code.Some key) (offset + (entry_at es i).length)
    unfolding first_among offset_for
    checked_more {key} e k = subst (λ (n : ℕ). Checked n (code.Some key) (offset + (entry_at es i).length)) (sym (add-one i)) (record {
      key = ap code.Some k;
      strings = ap (λ (o : ℕ). o + (entry_at es i).length) c.strings;
      faultless = (then_none (first_among (entry_fault es p) i) (entry_fault es p i)).1 (c.faultless, sym fault_here ∙ e);
      sixteen = λ j l. to_here j (omega arith);
    })

  -- after the last, the offset is what all strings take
  pub checked_all : (i : ℕ) {before : code.Option ℕ} {offset : ℕ} → i ≡ length es → Checked i before offset
      → Faultless (length es) × (record_at (length es) + offset ≡ size_for es)
  checked_all i {before} {offset} q c = (subst Faultless q c.faultless, ap (λ (o : ℕ). record_at (length es) + o) (c.strings ∙ ap (offset_for es) q))

  module _ (r : ℕ) where
    pub refused_many : 5460 < length es → write_of es p r ≡ refused 30 none
    unfolding write_of unwritten
    refused_many l = passed_on _ (here _ _ _ ((too_many es).1 l))

    module _ (l : length es ≤ 5460) where
      pub refused_entry : (i : ℕ) (x : Refusal) → i < length es → Faultless i → entry_fault es p i ≡ some x → write_of es p r ≡ refusing x
      unfolding write_of unwritten
      refused_entry i x h f e =
          let g : IsFirst (entry_fault es p) (length es) x = record { place = i; inside = h; here = e; earlier = (first_all _ _).0 f } in
          passed_on _ (past _ _ _ ((not_many es).1 l) ∙ first_here _ ((first_exactly _ _ _).1 g))

      pub refused_room : Faultless (length es) → r < size_for es → write_of es p r ≡ refused 33 none
      unfolding write_of unwritten
      refused_room f h = passed_on _ (past _ _ _ ((not_many es).1 l) ∙ first_past _ f ∙ (when_some _ _ _).1 ((short es r).1 h, refl))

      pub not_refused_size : Faultless (length es) → size_for es ≤ r → write_of es p r ≡ answered (size_for es)
      unfolding write_of unwritten
      not_refused_size f h = not_refused _ (past _ _ _ ((not_many es).1 l) ∙ first_past _ f ∙ (when_none _ _).1 ((enough es r).1 h))

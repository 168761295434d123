-- The records of an accepted format 0 table are refused by 32 or 33 alone, or give a table that answers every lookup with the same bytes.
-- Assumes nothing.
use Prim.Native.Nat.{ℕ, suc, ◌+◌, ◌≤◌, ◌<◌}
use mathlib.Core.Path.{◌≡◌, refl, sym, ◌∙◌, ap, subst}
use mathlib.Core.Option.{Option, none, some}
use mathlib.Core.List.{List}
use native.Mathlib.Omega.{arith}
use lib.ListN.{length}
use Rattle.bigendian.specs.Numbers.{Bytes}
use Rattle.outcomes.specs.Outcomes.{Outcome}
use Rattle.name_layout.specs.Layout.{format, count, record_at, part, platform, language, bytes_of}
use Rattle.name_layout.specs.Keys.{Key, key_of, KeyBelow}
use Rattle.name_layout.proofs.Keys.{key_asymmetric, key_irreflexive}
use Rattle.name_layout.proofs.Layouts.{tags_after, word_lt}
use Rattle.name.specs.Acceptable.{Acceptable}
use Rattle.name_search.specs.declared.Text.{Text}
use Rattle.name_search.specs.Searches.{HasKey, record_with, text_of}
use Rattle.name_search.proofs.Finds.{find_has, find_none, text_is, has_bytes}
use Rattle.name_lookup.specs.Answers.{lookup_of}
use Rattle.name_lookup.specs.Exactly.{LookupRight}
use Rattle.name_lookup.proofs.Theorems.{lookup_right}
use Rattle.name_store.specs.declared.Entry.{Entry}
use Rattle.name_store.specs.Entries.{entry_at, key_for, text_for, size_for, Entries}
use Rattle.name_store.specs.Tables.{TableOf}
use Rattle.name_store.specs.Writing.{write_of, room_after}
use Rattle.name_store.specs.WriteSettled as writer
use Rattle.name_store.specs.WriteSettled.{Allowed, WriteSettled}
use Rattle.name_store.specs.Promises.{WriteRight, KeepsBytes}
use Rattle.name_store.proofs.Right.{bytes_take, write_right, keeps_bytes}
use Rattle.name_writer.specs.Rewriting.{RecordsOf, Alike, neither, both, Rewritten, Rewrites}
use Rattle.name_writer.specs.Rewriting as rewriting
use Rattle.name_writer.proofs.Reading.{acceptable_table}

module _ (t : List ℕ) (es : List Entry) (bt : Bytes t) (a : Acceptable t) (f : format t ≡ 0) (x : RecordsOf t es) where
  recorded : {i : ℕ} → i < length es → i < count t
  recorded l = let c = x.as_many in omega arith

  -- none of 30, 31, 18, 17, 19
  few : length es ≤ 5460
  few = let c = x.as_many in omega (arith, a.after, tags_after t, word_lt t bt 4)

  inside : (i : ℕ) → i < length es → (entry_at es i).start + (entry_at es i).length ≤ length t
  inside i l = omega (arith, x.starts i (recorded l), x.lengths i (recorded l), a.strings i (recorded l))

  allowed : (i : ℕ) → i < length es → Allowed (entry_at es i)
  unfolding key_of
  allowed i l h =
      let k = x.keys i (recorded l) in
      let p : (entry_at es i).platform ≡ platform t i = ap (λ (y : Key). y.platform) k in
      let q : (entry_at es i).language ≡ language t i = ap (λ (y : Key). y.language) k in
      let b = (a.languages i (recorded l)).format0 f (omega arith) in (omega arith, omega arith)

  above : (j : ℕ) → suc j < length es → KeyBelow (key_for (entry_at es j)) (key_for (entry_at es (suc j)))
  above j l =
      subst (λ (k : Key). KeyBelow k (key_for (entry_at es (suc j)))) (sym (x.keys j (recorded (omega arith))))
      (subst (KeyBelow (key_of t j)) (sym (x.keys (suc j) (recorded l))) (a.rising j (recorded l)))

  -- a record's numbers have 16 bits
  sixteen : Entries es
  unfolding key_of
  sixteen i l =
      let k = x.keys i (recorded l) in
      let at : (y : ℕ) → part t i y < 65536 = λ y. word_lt t bt (record_at i + y) in
      record {
        platform = subst (λ (y : ℕ). y < 65536) (sym (ap (λ (y : Key). y.platform) k)) (at 0);
        encoding = subst (λ (y : ℕ). y < 65536) (sym (ap (λ (y : Key). y.encoding) k)) (at 2);
        language = subst (λ (y : ℕ). y < 65536) (sym (ap (λ (y : Key). y.language) k)) (at 4);
        name = subst (λ (y : ℕ). y < 65536) (sym (ap (λ (y : Key). y.name) k)) (at 6);
        length = subst (λ (y : ℕ). y < 65536) (sym (x.lengths i (recorded l))) (at 8);
      }

  -- an entry's text is its record's string
  text_of_lem : (i : ℕ) → i < length es → bytes_of t i ≡ text_for t (entry_at es i)
  unfolding bytes_of text_for
  text_of_lem i l = rw (x.starts i (recorded l), x.lengths i (recorded l)) refl

  module _ (lookup : List ℕ → Key → Outcome Text) (looks : LookupRight lookup) where
    -- a table of the entries answers every lookup alike
    answers : (u : List ℕ) → Bytes u → TableOf t es u → Acceptable u → (k : Key) → Alike lookup t u k
    answers u bu y b k = by (record_with t k) refl
      where
        listed : {i : ℕ} → i < count u → i < length es
        listed l = let c = y.as_many in omega arith

        same_key : {i : ℕ} → (l : i < length es) → key_of u i ≡ key_of t i
        same_key {i} l = y.keys i l ∙ x.keys i (recorded l)

        by : (o : Option ℕ) → record_with t k ≡ o → Alike lookup t u k
        by none e =
            let m = (find_none t k).0 e in
            neither ((looks.missing t bt k).1 (a, m))
            ((looks.missing u bu k).1 (b, λ i h. m i (record { inside = recorded (listed h.inside); has = sym (same_key (listed h.inside)) ∙ h.has })))
        by (some i) e =
            let h = find_has t k e in
            let l : i < length es = let c = x.as_many in let d = h.inside in omega arith in
            let g : HasKey u k i = record { inside = let c = y.as_many in omega arith; has = same_key l ∙ h.has } in
            both ((looks.found t bt k (text_of t i)).1 (a, (i, h, (text_is t i _).0 refl))) ((looks.found u bu k (text_of u i)).1 (b, (i, g, (text_is u i _).0 refl)))
            (((text_is t i _).0 refl).number ∙ sym ((text_is u i _).0 refl).number)
            (((text_is t i _).0 refl).len ∙ sym (x.lengths i (recorded l)) ∙ sym (y.lengths i l) ∙ sym ((text_is u i _).0 refl).len)
            ((has_bytes t i refl a h.inside).2 ∙ ap (bytes_of t) ((text_is t i _).0 refl).number ∙ text_of_lem i l
            ∙ sym ((has_bytes u i refl b g.inside).2 ∙ ap (bytes_of u) ((text_is u i _).0 refl).number ∙ y.copied i l))

    module _ (result : List Entry → ℕ → ℕ → Outcome ℕ) (room : List Entry → List ℕ → List ℕ → List ℕ) (right : WriteRight result room) (keeps : KeepsBytes room) (r : List ℕ) (br : Bytes r) where
      rewritten : (o : Outcome ℕ) → WriteSettled es (length t) (length r) o → result es (length t) (length r) ≡ o → Rewritten lookup result room t es r
      rewritten _ (writer.too_many h) e = absurd (let g = few in omega arith)
      rewritten _ (writer.past_pool {i} s l h) e = absurd (let g = inside i l in omega arith)
      rewritten _ (writer.language_refused {i} s l h b) e = absurd (b (allowed i l))
      rewritten _ (writer.key_below {j} s l h b c) e = absurd (key_asymmetric _ _ (above j l) c)
      rewritten _ (writer.key_equal {j} s l h b c) e = absurd (key_irreflexive (sym c) (above j l))
      rewritten _ (writer.too_far s l h b c d) e = rewriting.too_far e
      rewritten _ (writer.no_room s h) e = rewriting.no_room e
      rewritten _ (writer.is_written s h) e =
          let y = (right.written es t r _ e).0 in
          rewriting.same e (answers _ (bytes_take (size_for es) (room es t r) (keeps es t r sixteen bt br)) y (acceptable_table t es _ y s))

pub rewrites : (lookup : List ℕ → Key → Outcome Text) → LookupRight lookup → (result : List Entry → ℕ → ℕ → Outcome ℕ) (room : List Entry → List ℕ → List ℕ → List ℕ)
    → WriteRight result room → KeepsBytes room → Rewrites lookup result room
rewrites lookup looks result room right keeps t es r bt br a f x =
    rewritten t es bt a f x lookup looks result room right keeps r br _ ((right.settled es (length t) (length r) _).0 refl) refl

-- ours
pub written_rewrites : Rewrites lookup_of write_of room_after
written_rewrites = rewrites lookup_of lookup_right write_of room_after write_right keeps_bytes

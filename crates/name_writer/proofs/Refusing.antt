-- The writer's 18, 17 and 19 are the reader's: where nothing else can be wrong, an entry is refused exactly as the record of the table of the entries is.
-- Assumes nothing.
use Prim.Native.Nat.{ℕ, suc, ◌≤◌, ◌<◌}
use mathlib.Core.Path.{◌≡◌, refl, sym, ◌∙◌, subst}
use mathlib.Core.Logic.{inl, ⊎_elim, ◌↔◌}
use mathlib.Core.Option.{Option, some}
use mathlib.Core.List.{List}
use native.Mathlib.Omega.{arith}
use lib.ListN.{length}
use Rattle.outcomes.specs.Outcomes.{Refusal, Outcome, refused}
use Rattle.name_layout.specs.Layout.{count}
use Rattle.name.specs.Refusing as reader
use Rattle.name.specs.Refusing.{Refused, RefusedExactlyWhen}
use Rattle.name.specs.Acceptance.{check_of}
use Rattle.name.proofs.Refusings.{refused_exactly_when}
use Rattle.name_store.specs.declared.Entry.{Entry}
use Rattle.name_store.specs.Tables.{TableOf}
use Rattle.name_store.specs.Writing.{write_of, room_after}
use Rattle.name_store.specs.WriteSettled as writer
use Rattle.name_store.specs.WriteSettled.{WriteSettled}
use Rattle.name_store.specs.Promises.{WriteRight}
use Rattle.name_store.proofs.Right.{write_right}
use Rattle.name_writer.specs.Reading.{Fitting, SameRefusals}
use Rattle.name_writer.proofs.Reading.{no_tags, listed, string_ends, speaks, spoken}

module _ (es : List Entry) (pool t : List ℕ) (r : ℕ) (fit : Fitting es (length pool) r) (x : TableOf pool es t) where
  abbrev p : ℕ
  p = length pool

  within : {i : ℕ} → i < length es → i < count t
  within l = let c = x.as_many in omega arith

  -- the table is laid out as it should be
  laid : reader.Laid t
  laid =
      let g = no_tags pool es t x in let c = x.as_many in let d = x.directly in let e = x.ends in
      record { long = omega arith; known = inl x.plain; records = omega arith; tags = omega arith; placed = (omega arith, omega arith) }

  -- ---- an entry is sound exactly when its record is

  record_sound : (i : ℕ) → i < length es → writer.Sound es p i → reader.Sound t i
  record_sound i l s = record {
    string = string_ends pool es t x i l;
    language = speaks pool es t x i l s.language;
    order = λ j q. rw (x.keys i l, x.keys j (omega arith)) (s.order j q);
  }

  entry_sound : (i : ℕ) → i < length es → reader.Sound t i → writer.Sound es p i
  entry_sound i l s = record {
    inside = fit.inside i l;
    language = spoken pool es t x i l s.language;
    order = λ j q. rw (x.keys i l, x.keys j (omega arith)) at (s.order j q);
    near = fit.near i l;
  }

  records_sound : (n : ℕ) → n ≤ length es → writer.SoundBelow es p n → reader.SoundBelow t n
  records_sound n l s = record { laid = laid; sound = λ i h. record_sound i (omega arith) (s.sound i h) }

  entries_sound : (n : ℕ) → n ≤ length es → reader.SoundBelow t n → writer.SoundBelow es p n
  entries_sound n l s = record { few = fit.few; sound = λ i h. entry_sound i (omega arith) (s.sound i h) }

  -- ---- and is refused alike

  abbrev by_writer : Refusal → Type 0
  by_writer y = WriteSettled es p r (refused y.number y.carried)

  gives : (n : ℕ) (c : Option ℕ) (y : Refusal) → Refused t (record { number = n; carried = c }) → ◌≡◌ {A = Outcome ℕ} (refused n c) (refused y.number y.carried) → Refused t y
  gives n c y w q = let a : n ≡ y.number = cc in let b : c ≡ y.carried = cc in subst (Refused t) (λ i. record { number = a i; carried = b i }) w

  there : (o : Outcome ℕ) → WriteSettled es p r o → (y : Refusal) → o ≡ refused y.number y.carried → Refused t y
  there _ (writer.too_many a) y e = absurd (let f = fit.few in omega arith)
  there _ (writer.past_pool {i} s h a) y e = absurd (let f = fit.inside i h in omega arith)
  there _ (writer.language_refused {i} s h a b) y e =
      gives 18 (some i) y (reader.language_refused (records_sound i (omega arith) s) (within h) (string_ends pool es t x i h) (λ k. b (spoken pool es t x i h k))) e
  there _ (writer.key_below {j} s h a l k) y e =
      gives 17 (some (suc j)) y
      (reader.key_below (records_sound (suc j) (omega arith) s) (within h) (string_ends pool es t x (suc j) h) (speaks pool es t x (suc j) h l)
      (rw (x.keys (suc j) h, x.keys j (omega arith)) k)) e
  there _ (writer.key_equal {j} s h a l k) y e =
      gives 19 (some (suc j)) y
      (reader.key_equal (records_sound (suc j) (omega arith) s) (within h) (string_ends pool es t x (suc j) h) (speaks pool es t x (suc j) h l)
      (x.keys (suc j) h ∙ k ∙ sym (x.keys j (omega arith)))) e
  there _ (writer.too_far {i} s h a l k f) y e = absurd (let g = fit.near i h in omega arith)
  there _ (writer.no_room s f) y e = absurd (let g = fit.enough in omega arith)
  there _ (writer.is_written s f) y e = let z : ◌≡◌ {A = ℕ} 0 1 = cc in absurd (omega arith)

  back : (y : Refusal) → Refused t y → by_writer y
  back _ (reader.too_short a) = absurd (let f = laid.long in omega arith)
  back _ (reader.other_format a b) = absurd (b laid.known)
  back _ (reader.records_pass a b c) = absurd (let f = laid.records in omega arith)
  back _ (reader.tags_pass a b c d) = absurd (let f = laid.tags in omega arith)
  back _ (reader.misplaced a b c d e) = absurd (⊎_elim (λ q. let f = laid.placed in omega arith) (λ q. let f = laid.placed in omega arith) e)
  back _ (reader.string_beyond {i} s h a) = absurd (let f = string_ends pool es t x i (listed pool es t x i h) in omega arith)
  back _ (reader.string_runs_over {i} s h a b) = absurd (let f = string_ends pool es t x i (listed pool es t x i h) in omega arith)
  back _ (reader.language_refused {i} s h a b) =
      let l = listed pool es t x i h in
      writer.language_refused (entries_sound i (omega arith) s) l (fit.inside i l) (λ k. b (speaks pool es t x i l k))
  back _ (reader.key_below {j} s h a b k) =
      let l = listed pool es t x (suc j) h in
      writer.key_below (entries_sound (suc j) (omega arith) s) l (fit.inside (suc j) l) (spoken pool es t x (suc j) l b) (rw (x.keys (suc j) l, x.keys j (omega arith)) at k)
  back _ (reader.key_equal {j} s h a b k) =
      let l = listed pool es t x (suc j) h in
      writer.key_equal (entries_sound (suc j) (omega arith) s) l (fit.inside (suc j) l) (spoken pool es t x (suc j) l b)
      (sym (x.keys (suc j) l) ∙ k ∙ x.keys j (omega arith))
  back _ (reader.tag_passes {i} s h a b) = absurd (let g = no_tags pool es t x in omega arith)

  pub alike : (y : Refusal) → WriteSettled es p r (refused y.number y.carried) ↔ Refused t y
  alike y = (λ w. there _ w y refl, back y)

pub same_refusals : (check : List ℕ → Outcome (Unit {0})) → RefusedExactlyWhen check → (result : List Entry → ℕ → ℕ → Outcome ℕ) (room : List Entry → List ℕ → List ℕ → List ℕ)
    → WriteRight result room → SameRefusals check result
same_refusals check refuses result room right es pool t r fit x n c = (
  λ e. (refuses t y).1 ((alike es pool t r fit x y).0 ((right.settled es (length pool) r _).0 e)),
  λ e. (right.settled es (length pool) r _).1 ((alike es pool t r fit x y).1 ((refuses t y).0 e)),
)
  where
    y : Refusal
    y = record { number = n; carried = c }

-- ours
pub written_same_refusals : SameRefusals check_of write_of
written_same_refusals = same_refusals check_of refused_exactly_when write_of room_after write_right

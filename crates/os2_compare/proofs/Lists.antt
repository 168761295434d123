-- One step of each pass over the fields: the list up to the next field has one entry more, or is the same; and the five stores that write a row.
-- Assumes nothing.
use Prim.Native.Nat.{ℕ, suc, ◌+◌, ◌*◌, ◌/◌, ◌≤◌, ◌<◌}
use mathlib.Core.Path.{◌≡◌, refl, ap, ◌∙◌}
use mathlib.Core.Bool.{true, false}
use mathlib.Core.Option.{Option, none, some}
use mathlib.Core.List.{List, [], ◌∷◌, ◌++◌, append-nil}
use native.Mathlib.Decide.{dec_lt}
use native.Mathlib.Numerals.{add-one}
use native.Mathlib.Omega.{arith}
use lib.IntN.{ℤ, pos}
use lib.ListN.{length, length-append, get_or, set}
use lib.Seq.{sets}
use Rattle.outcomes.proofs.Laws.{when_none, when_some}
use Rattle.os2_fields.specs.declared.catalogue.Field.{Field}
use Rattle.os2_fields.specs.Catalogue.{plain, catalogue, field_of}
use Rattle.os2_answers.specs.declared.Answer.{Answer}
use Rattle.comparing.specs.Lists.{entry_of, list_below}
use Rattle.comparing.specs.Rooms.{rows_of, front}
use Rattle.comparing.proofs.Lists.{no_entry, one_entry, shorter, whole}
use Rattle.comparing.proofs.Rooms.{grown}
use Rattle.os2_compare.specs.Differences.{Difference, answer_in, kind_of, figure_of, differ, difference_at, row_of}
use Rattle.os2_compare.proofs.Answers.{one_answer}

-- a field of the catalogue
pub entry_is : (fs : List Field) (k : ℕ) → fs ≡ catalogue → get_or fs k (plain 0 0 0) ≡ field_of k
unfolding field_of
entry_is fs k e = rw e

-- a row is five numbers
pub row_five : (d : Difference) → length (row_of d) ≡ 5
unfolding row_of
row_five d = refl

-- and no two differences have the same
pub row_once : (d e : Difference) → row_of d ≡ row_of e → d ≡ e
unfolding row_of
row_once d e h =
    let f : d.field ≡ e.field = cc in
    let l : d.left ≡ e.left = one_answer d.left e.left (cc) (cc) in
    let r : d.right ≡ e.right = one_answer d.right e.right (cc) (cc) in
    λ i. record { field = f i; left = l i; right = r i }

-- ---- the list

module _ {A : Type 0} (f : ℕ → Option A) where
  pub nothing_yet : list_below f 0 ≡ []
  unfolding list_below
  nothing_yet = refl

  next : (k : ℕ) → list_below f (k + 1) ≡ list_below f k ++ entry_of (f k)
  unfolding list_below
  next k = rw add-one

  module _ {k n done count : ℕ} (inside : k ≤ n) (d : done ≡ length (list_below f k)) (c : count ≡ length (list_below f n)) where
    -- where entries are left, so are places
    pub not_yet : done < count → k < n
    not_yet l = at (dec_lt k n)
      where
        at : Dec (k < n) → k < n
        at (yes q) = q
        at (no q) = let z : k ≡ n = omega arith in absurd (omega (arith, ap (λ m. length (list_below f m)) z))

    -- and where none is left, the list is whole
    pub all_done : count ≤ done → list_below f k ≡ list_below f n
    all_done l = whole f k n inside (omega (arith, shorter f k n inside))

module _ (L : ℕ) (left right : List ℕ) (k : ℕ) {a b : Answer ℤ} (p : a ≡ answer_in L left (field_of k)) (q : b ≡ answer_in L right (field_of k)) where
  abbrev f : ℕ → Option Difference
  f = difference_at L left right

  abbrev here : Difference
  here = record { field = k; left = a; right = b }

  pub is_here : differ a b ≡ true → f k ≡ some here
  unfolding difference_at
  is_here e = (when_some _ _ _).1 (rw (p, q) at e, rw (p, q))

  is_none : differ a b ≡ false → f k ≡ none
  unfolding difference_at
  is_none e = (when_none _ _).1 (rw (p, q) at e)

  lists_next : differ a b ≡ true → list_below f (k + 1) ≡ list_below f k ++ (here ∷ [])
  lists_next e = next f k ∙ ap (λ xs. list_below f k ++ xs) (one_entry (is_here e))

  pub counts_next : {n : ℕ} → differ a b ≡ true → n ≡ length (list_below f k) → n + 1 ≡ length (list_below f (k + 1))
  counts_next e d = rw (lists_next e, length-append) (omega arith)

  pub passes_over : differ a b ≡ false → list_below f (k + 1) ≡ list_below f k
  passes_over e = next f k ∙ (ap (λ xs. list_below f k ++ xs) (no_entry (is_none e)) ∙ append-nil _)

  -- a row more in a room that has one left
  pub writes_next : (room : List ℤ) {n : ℕ} {old new : List ℤ} → differ a b ≡ true → n ≡ length (list_below f k) → n < length room / 5 →
      old ≡ front (rows_of row_of (list_below f k)) room → new ≡ sets old (5 * n) (row_of here) →
      (length new ≡ length room) × (new ≡ front (rows_of row_of (list_below f (k + 1))) room)
  unfolding rows_of row_of
  writes_next room {n} e d l o w =
      let enough : length (list_below f k ++ (here ∷ [])) ≤ length room / 5 = rw length-append (omega arith) in
      rw (lists_next e) (grown row_of row_five (list_below f k) (here ∷ []) room enough (ap (λ m. 5 * m) d) o w)

-- ---- a row

pub five_stores : (room : List ℤ) (at : ℕ) (d : Difference) {v w x y z : ℤ} →
    v ≡ pos d.field → w ≡ pos (kind_of d.left) → x ≡ figure_of d.left → y ≡ pos (kind_of d.right) → z ≡ figure_of d.right →
    set (set (set (set (set room at v) (at + 1) w) (at + 2) x) (at + 3) y) (at + 4) z ≡ sets room at (row_of d)
unfolding row_of
five_stores room at d f g h i j =
    let e₁ : at + 1 ≡ suc at = omega arith in
    let e₂ : at + 2 ≡ suc (suc at) = omega arith in
    let e₃ : at + 3 ≡ suc (suc (suc at)) = omega arith in
    let e₄ : at + 4 ≡ suc (suc (suc (suc at))) = omega arith in
    rw (f, g, h, i, j, e₁, e₂, e₃, e₄)

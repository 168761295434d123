-- What is stored number by number; and the entries stored in turn are the table, and no byte after it is another.
-- Assumes nothing.
use Prim.Native.Nat.{ℕ, suc, ◌+◌, ◌/◌, ◌%◌, ◌≤◌, ◌<◌}
use mathlib.Core.Path.{◌≡◌, refl, sym, ◌∙◌, ap}
use mathlib.Core.Option.{none}
use mathlib.Core.List.{List, ◌++◌}
use native.Mathlib.Nat.{add-zero}
use native.Mathlib.Numerals.{add-one}
use native.Mathlib.Omega.{arith}
use lib.ListN.{length, take, drop}
use lib.Seq.{sets, sets-eq}
use Rattle.bigendian.specs.Numbers.{stored}
use Rattle.copying.proofs.Copies.{sets_append, sets_comm}
use Rattle.name_layout.specs.Layout.{record_at}
use Rattle.name_store.specs.declared.Entry.{Entry}
use Rattle.name_store.specs.Entries.{entry_at, text_end, text_for, offset_for, size_for, Sixteen}
use Rattle.name_store.specs.Tables.{two, front_for, record_for, records_of, strings_of, table_of}
use Rattle.name_store.specs.Writing.{unwritten, room_after}
use Rattle.name_store.proofs.Laid.{Within, offset_ends, records_length, strings_length, table_length}
use Rattle.name_store.proofs.Right.{unrefused, room_is}

-- ---- numbers

-- a 16-bit number in its two bytes
stored_two : (room : List ℕ) (at x : ℕ) → x < 65536 → stored 2 room at x ≡ sets room at (two x)
unfolding stored
stored_two room at x l = let h : x / 256 % 256 ≡ x / 256 = omega arith in simp (add-zero, add-one, h)

-- the front, number by number
pub front_stored : (n : ℕ) → n ≤ 5460 → (r₀ r₁ r₂ r₃ : List ℕ) → r₁ ≡ stored 2 r₀ 0 0 → r₂ ≡ stored 2 r₁ 2 n → r₃ ≡ stored 2 r₂ 4 (record_at n) → r₃ ≡ sets r₀ 0 (front_for n)
front_stored n l r₀ r₁ r₂ r₃ a b c =
    c ∙ stored_two _ 4 (record_at n) (omega arith)
    ∙ ap (λ (r : List ℕ). sets r 4 (two (record_at n))) (b ∙ stored_two _ 2 n (omega arith) ∙ ap (λ (r : List ℕ). sets r 2 (two n)) (a ∙ stored_two _ 0 0 (omega arith)))

-- a record, number by number
pub record_stored : (at : ℕ) (e : Entry) (o : ℕ) → Sixteen e → o < 65536 → (r₀ r₁ r₂ r₃ r₄ r₅ r₆ : List ℕ)
    → r₁ ≡ stored 2 r₀ at e.platform → r₂ ≡ stored 2 r₁ (at + 2) e.encoding → r₃ ≡ stored 2 r₂ (at + 4) e.language
    → r₄ ≡ stored 2 r₃ (at + 6) e.name → r₅ ≡ stored 2 r₄ (at + 8) e.length → r₆ ≡ stored 2 r₅ (at + 10) o → r₆ ≡ sets r₀ at (record_for e o)
record_stored at e o s l r₀ r₁ r₂ r₃ r₄ r₅ r₆ a b c d f g =
    g ∙ stored_two _ (at + 10) o l
    ∙ ap (λ (r : List ℕ). sets r (at + 10) (two o)) (f ∙ stored_two _ (at + 8) e.length s.length
    ∙ ap (λ (r : List ℕ). sets r (at + 8) (two e.length)) (d ∙ stored_two _ (at + 6) e.name s.name
    ∙ ap (λ (r : List ℕ). sets r (at + 6) (two e.name)) (c ∙ stored_two _ (at + 4) e.language s.language
    ∙ ap (λ (r : List ℕ). sets r (at + 4) (two e.language)) (b ∙ stored_two _ (at + 2) e.encoding s.encoding
    ∙ ap (λ (r : List ℕ). sets r (at + 2) (two e.encoding)) (a ∙ stored_two _ at e.platform s.platform)))))
    ∙ in_a_row
  where
    in_a_row : sets (sets (sets (sets (sets (sets r₀ at (two e.platform)) (at + 2) (two e.encoding)) (at + 4) (two e.language)) (at + 6) (two e.name))
        (at + 8) (two e.length)) (at + 10) (two o) ≡ sets r₀ at (record_for e o)
    in_a_row =
        let p : at + 2 ≡ suc (suc at) = omega arith in
        let q : at + 4 ≡ suc (suc (suc (suc at))) = omega arith in
        let r : at + 6 ≡ suc (suc (suc (suc (suc (suc at))))) = omega arith in
        let u : at + 8 ≡ suc (suc (suc (suc (suc (suc (suc (suc at))))))) = omega arith in
        let v : at + 10 ≡ suc (suc (suc (suc (suc (suc (suc (suc (suc (suc at))))))))) = omega arith in
        rw (p, q, r, u, v) refl

-- ---- entries in turn

-- where entry i has its place: r is the room's length
pub record Placed (es : List Entry) (p r i offset : ℕ) : Type 0 where
  pub few : length es ≤ 5460
  pub near : offset ≤ 65535
  pub text : text_end (entry_at es i) ≤ p
  pub fits : record_at (length es) + offset + (entry_at es i).length ≤ r

module _ (es : List Entry) (p r : ℕ) (e : unwritten es p r ≡ none) where
  pub front_placed : (6 ≤ r) × (length es ≤ 5460)
  front_placed = let u = unrefused es p r e in let l = u.0.few in let h = u.1 in (omega arith, omega arith)

  pub placed : (i : ℕ) {offset : ℕ} → i < length es → offset ≡ offset_for es i → Placed es p r i offset
  placed i l q =
      let u = unrefused es p r e in
      let s = u.0.sound i l in
      let h = u.1 in
      record { few = u.0.few; near = rw q s.near; text = s.inside; fits = omega (arith, offset_ends es (length es) i l) }

module _ (pool : List ℕ) (es : List Entry) (room : List ℕ) where
  abbrev n : ℕ
  n = length es

  -- the room with the front in it
  abbrev pub fronted : List ℕ
  fronted = sets room 0 (front_for (length es))

  -- the room after i entries
  abbrev pub bytes_to : ℕ → List ℕ
  bytes_to i = sets (sets fronted (record_at (length es)) (strings_of pool es i)) 6 (records_of es i)

  -- before the first
  pub none_stored : bytes_to 0 ≡ fronted
  unfolding strings_of records_of
  none_stored = refl

  -- one more: its string goes behind the strings, and its record behind the records
  pub one_more : (i : ℕ) → i < length es → Within (length pool) es i →
      sets (sets (bytes_to i) (record_at (length es) + offset_for es i) (text_for pool (entry_at es i))) (record_at i) (record_for (entry_at es i) (offset_for es i))
      ≡ bytes_to (suc i)
  unfolding records_of strings_of
  one_more i l w = text_in ∙ record_in
    where
      S : List ℕ
      S = strings_of pool es i

      R : List ℕ
      R = records_of es i

      x : List ℕ
      x = text_for pool (entry_at es i)

      r : List ℕ
      r = record_for (entry_at es i) (offset_for es i)

      text_in : sets (sets (sets (sets fronted (record_at n) S) 6 R) (record_at n + offset_for es i) x) (record_at i) r
          ≡ sets (sets (sets fronted (record_at n) (S ++ x)) 6 R) (record_at i) r
      text_in =
          ap (λ (q : List ℕ). sets q (record_at i) r)
          (sets_comm (sets fronted (record_at n) S) 6 (record_at n + offset_for es i) R x (omega (arith, records_length es i))
          ∙ ap (λ (q : List ℕ). sets q 6 R) (sym (sets_append fronted (record_at n) S x (strings_length pool es i w))))

      record_in : sets (sets (sets fronted (record_at n) (S ++ x)) 6 R) (record_at i) r ≡ sets (sets fronted (record_at n) (S ++ x)) 6 (R ++ r)
      record_in = sym (sets_append (sets fronted (record_at n) (S ++ x)) 6 R r (records_length es i))

  -- all of it is the table, and what was there behind it
  pub all_bytes : Within (length pool) es (length es) → size_for es ≤ length room → bytes_to (length es) ≡ table_of pool es ++ drop (size_for es) room
  unfolding table_of
  all_bytes w h =
      let z : 0 + length (table_of pool es) ≡ size_for es = omega (arith, table_length pool es w) in
      sym (sets_comm fronted 6 (record_at n) R S (omega (arith, records_length es n)))
      ∙ sym (sets_append fronted 6 R S (records_length es n))
      ∙ sym (sets_append room 0 (front_for n) (R ++ S) refl)
      ∙ sets-eq (table_of pool es) room 0 (omega (arith, table_length pool es w))
      ∙ ap (λ (m : ℕ). take 0 room ++ table_of pool es ++ drop m room) z
    where
      S : List ℕ
      S = strings_of pool es n

      R : List ℕ
      R = records_of es n

  -- of entries that are not refused
  module _ (e : unwritten es (length pool) (length room) ≡ none) where
    within : Within (length pool) es (length es)
    within i l = ((unrefused es (length pool) (length room) e).0.sound i l).inside

    -- the string is stored, and then the record
    pub stored_more : (i : ℕ) {offset : ℕ} {r₀ r₁ r₂ : List ℕ} → i < length es → (r₀ ≡ bytes_to i) × (offset ≡ offset_for es i)
        → r₁ ≡ sets r₀ (record_at (length es) + offset) (text_for pool (entry_at es i)) → r₂ ≡ sets r₁ (record_at i) (record_for (entry_at es i) offset)
        → (r₂ ≡ bytes_to (i + 1)) × (offset + (entry_at es i).length ≡ offset_for es (i + 1))
    unfolding offset_for
    stored_more i l h a b =
        let m = one_more i l (λ j q. within j (omega arith)) in
        rw (add-one i, b, a, h.0, h.1) (m, refl)

    pub stored_all : bytes_to (length es) ≡ room_after es pool room
    stored_all = all_bytes within (unrefused es (length pool) (length room) e).1 ∙ sym (room_is es pool room e)

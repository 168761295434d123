-- Nothing else is in the table: bytes that are the table of the entries are the same, number by number and string by string.
-- Assumes nothing.
use Prim.Native.Nat.{ℕ, zero, suc, ◌+◌, ◌≤◌, ◌<◌}
use mathlib.Core.Path.{◌≡◌, refl, sym, ◌∙◌, ap}
use mathlib.Core.List.{List, [], ◌∷◌, ◌++◌}
use native.Mathlib.Nat.{add-zero}
use native.Mathlib.Omega.{arith}
use lib.ListN.{length, take, drop, get_or}
use lib.Seq.{take-add, take-length, drop-cons}
use Rattle.bigendian.specs.Numbers.{number, Bytes}
use Rattle.bigendian.proofs.Laws.{number_2}
use Rattle.name_layout.specs.Layout.{storage, record_at, text_at, part, bytes_of}
use Rattle.name_layout.specs.Keys.{Key, key_of}
use Rattle.name_store.specs.declared.Entry.{Entry}
use Rattle.name_store.specs.Entries.{entry_at, text_for, offset_for}
use Rattle.name_store.specs.Tables.{TableOf}
use Rattle.name_store.specs.Promises.{OneTable}

module _ (s t : List ℕ) where
  -- what both start with, and what both go on with
  grown : (a b : ℕ) → take a s ≡ take a t → take b (drop a s) ≡ take b (drop a t) → take (a + b) s ≡ take (a + b) t
  grown a b e f = take-add a b s ∙ ap (λ (r : List ℕ). r ++ take b (drop a s)) e ∙ ap (λ (r : List ℕ). take a t ++ r) f ∙ sym (take-add a b t)

  pair : (r : List ℕ) (at : ℕ) → at + 2 ≤ length r → take 2 (drop at r) ≡ get_or r at 0 ∷ get_or r (suc at) 0 ∷ []
  pair r at h = ap (take 2) (drop-cons r at 0 (omega arith) ∙ ap (λ (q : List ℕ). get_or r at 0 ∷ q) (drop-cons r (suc at) 0 (omega arith)))

  module _ (bs : Bytes s) (bt : Bytes t) where
    -- the same number, so the same two bytes
    number_bytes : (at : ℕ) → at + 2 ≤ length s → at + 2 ≤ length t → number 2 s at ≡ number 2 t at → take at s ≡ take at t → take (at + 2) s ≡ take (at + 2) t
    number_bytes at hs ht e f =
        let z : at + 1 ≡ suc at = omega arith in
        let a = rw z at (number_2 s at) in
        let b = rw z at (number_2 t at) in
        let p : get_or s at 0 ≡ get_or t at 0 = omega (arith, a, b, bs (suc at), bt (suc at)) in
        let q : get_or s (suc at) 0 ≡ get_or t (suc at) 0 = omega (arith, a, b, bs (suc at), bt (suc at)) in
        grown at 2 f (pair s at hs ∙ (λ i. p i ∷ q i ∷ []) ∙ sym (pair t at ht))

    module _ (pool : List ℕ) (es : List Entry) (x : TableOf pool es s) (y : TableOf pool es t) where
      abbrev n : ℕ
      n = length es

      long_s : length s ≡ record_at n + offset_for es n
      long_s = let c = x.as_many in let d = x.directly in let e = x.ends in omega arith

      long_t : length t ≡ record_at n + offset_for es n
      long_t = let c = y.as_many in let d = y.directly in let e = y.ends in omega arith

      front : take 6 s ≡ take 6 t
      front =
          number_bytes 4 (omega (arith, long_s)) (omega (arith, long_t)) storages
          (number_bytes 2 (omega (arith, long_s)) (omega (arith, long_t)) (x.as_many ∙ sym y.as_many)
          (number_bytes 0 (omega (arith, long_s)) (omega (arith, long_t)) (x.plain ∙ sym y.plain) refl))
        where
          storages : storage s ≡ storage t
          storages = let c = x.as_many in let d = x.directly in let e = y.as_many in let f = y.directly in omega arith

      -- one record more: six numbers
      row : (i : ℕ) → i < length es → take (record_at i) s ≡ take (record_at i) t → take (record_at i + 12) s ≡ take (record_at i + 12) t
      unfolding key_of
      row i l f =
          next 10 (omega arith) offset (next 8 (omega arith) (x.lengths i l ∙ sym (y.lengths i l))
          (next 6 (omega arith) (ap (λ (k : Key). k.name) keys) (next 4 (omega arith) (ap (λ (k : Key). k.language) keys)
          (next 2 (omega arith) (ap (λ (k : Key). k.encoding) keys) (next 0 (omega arith) (ap (λ (k : Key). k.platform) keys) (rw (add-zero (record_at i)) f))))))
        where
          keys : key_of s i ≡ key_of t i
          keys = x.keys i l ∙ sym (y.keys i l)

          next : (k : ℕ) → k + 2 ≤ 12 → part s i k ≡ part t i k → take (record_at i + k) s ≡ take (record_at i + k) t → take (record_at i + (k + 2)) s ≡ take (record_at i + (k + 2)) t
          next k h p q =
              let u : record_at i + k + 2 ≡ record_at i + (k + 2) = omega arith in
              rw u at (number_bytes (record_at i + k) (omega (arith, long_s)) (omega (arith, long_t)) p q)

          offset : part s i 10 ≡ part t i 10
          offset = let u : text_at i + 2 ≡ record_at i + 10 = omega arith in rw u at (x.offsets i l ∙ sym (y.offsets i l))

      records : (i : ℕ) → i ≤ length es → take (record_at i) s ≡ take (record_at i) t
      records zero l = front
      records (suc i) l = let z : record_at i + 12 ≡ record_at (suc i) = omega arith in rw z at (row i l (records i (omega arith)))

      -- the string of an entry, in either
      string_in : (r : List ℕ) → TableOf pool es r → (i : ℕ) → i < length es → take (entry_at es i).length (drop (record_at n + offset_for es i) r) ≡ text_for pool (entry_at es i)
      unfolding bytes_of
      string_in r u i l =
          let c = u.as_many in let d = u.directly in
          let z : storage r ≡ record_at n = omega arith in
          rw (u.lengths i l, u.offsets i l, z) at (u.copied i l)

      strings : (i : ℕ) → i ≤ length es → take (record_at n + offset_for es i) s ≡ take (record_at n + offset_for es i) t
      unfolding offset_for
      strings zero l = rw (add-zero (record_at n)) (records n (omega arith))
      strings (suc i) l =
          let z : record_at n + offset_for es i + (entry_at es i).length ≡ record_at n + (offset_for es i + (entry_at es i).length) = omega arith in
          rw z at (grown (record_at n + offset_for es i) (entry_at es i).length (strings i (omega arith)) (string_in s x i l ∙ sym (string_in t y i l)))

      whole : s ≡ t
      whole = sym (take-length s) ∙ ap (λ (m : ℕ). take m s) long_s ∙ strings n (omega arith) ∙ ap (λ (m : ℕ). take m t) (sym long_t) ∙ take-length t

pub one_table : OneTable
one_table pool es s t bs bt x y = whole s t bs bt pool es x y

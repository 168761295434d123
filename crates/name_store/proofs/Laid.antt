-- The bytes of the table are the table of the entries: each number and each string stands where it should.
-- Assumes nothing.
use Prim.Native.Nat.{ℕ, zero, suc, ◌+◌, ◌*◌, ◌≤◌, ◌<◌}
use mathlib.Core.Path.{◌≡◌, refl, sym, ◌∙◌, ap}
use mathlib.Core.Logic.{⊎_elim}
use mathlib.Core.List.{List, [], ◌++◌, append_assoc}
use native.Mathlib.Nat.{not-suc-le-zero, le_of_suc-le-suc, eq-or-lt_of_le, div-add-mod'}
use native.Mathlib.Omega.{arith}
use lib.ListN.{length, take, drop, length-append, length-take, length-drop, get_or-append}
use lib.Seq.{get_or-append-add, drop_at, take-append-le, drop-append-le, drop-drop, take_all}
use Rattle.bigendian.specs.Numbers.{number}
use Rattle.bigendian.proofs.Laws.{number_2, number_same}
use Rattle.name_layout.specs.Layout.{record_at, text_at, part, string_length, string_offset, bytes_of}
use Rattle.name_layout.specs.Keys.{key_of}
use Rattle.name_store.specs.declared.Entry.{Entry}
use Rattle.name_store.specs.Entries.{entry_at, key_for, text_end, text_for, offset_for, size_for}
use Rattle.name_store.specs.Tables.{TableOf, two, front_for, record_for, records_of, strings_of, table_of}

-- the texts of the first n entries lie within the pool
abbrev pub Within : ℕ → List Entry → ℕ → Type 0
Within p es n = (i : ℕ) → i < n → text_end (entry_at es i) ≤ p

-- ---- offsets

pub offset_next : (es : List Entry) (i : ℕ) → offset_for es (suc i) ≡ offset_for es i + (entry_at es i).length
unfolding offset_for
offset_next es i = refl

-- string i ends before string n starts
pub offset_ends : (es : List Entry) (n i : ℕ) → i < n → offset_for es i + (entry_at es i).length ≤ offset_for es n
unfolding offset_for
offset_ends es zero i l = absurd (not-suc-le-zero l)
offset_ends es (suc n) i l =
    ⊎_elim (λ e. rw e (omega arith)) (λ h. omega (arith, offset_ends es n i h)) (eq-or-lt_of_le (le_of_suc-le-suc l))

-- ---- lengths

pub records_length : (es : List Entry) (n : ℕ) → length (records_of es n) ≡ 12 * n
unfolding records_of
records_length es zero = refl
records_length es (suc n) = length-append (records_of es n) _ ∙ omega (arith, records_length es n)

pub text_length : (pool : List ℕ) (e : Entry) → text_end e ≤ length pool → length (text_for pool e) ≡ e.length
unfolding text_for
text_length pool e h = simp (length-take, length-drop) (omega arith)

pub strings_length : (pool : List ℕ) (es : List Entry) (n : ℕ) → Within (length pool) es n → length (strings_of pool es n) ≡ offset_for es n
unfolding strings_of offset_for
strings_length pool es zero w = refl
strings_length pool es (suc n) w =
    length-append (strings_of pool es n) (text_for pool (entry_at es n))
    ∙ omega (arith, strings_length pool es n (λ i l. w i (omega arith)), text_length pool (entry_at es n) (w n (omega arith)))

-- ---- numbers in bytes put together

-- a number that stands in the first, or in the second
number_first : (k : ℕ) (xs ys : List ℕ) (at : ℕ) → at + k ≤ length xs → number k (xs ++ ys) at ≡ number k xs at
number_first k xs ys at h = number_same k (xs ++ ys) xs at at (λ i l. get_or-append xs ys 0 (at + i) (omega arith))

number_second : (k : ℕ) (xs ys : List ℕ) (at n : ℕ) → length xs ≡ n → number k (xs ++ ys) (n + at) ≡ number k ys at
number_second k xs ys at n e = number_same k (xs ++ ys) ys (n + at) at (λ i l.
    let z : n + at + i ≡ length xs + (at + i) = omega arith in
    rw z (get_or-append-add xs ys (at + i) 0))

-- a number in its two bytes
number_two : (x : ℕ) (ys : List ℕ) → number 2 (two x ++ ys) 0 ≡ x
number_two x ys = number_2 (two x ++ ys) 0 ∙ div-add-mod' x 256

-- the number in record i, in the records
in_records : (es : List Entry) (n i at : ℕ) → i < n → at + 2 ≤ 12 → number 2 (records_of es n) (12 * i + at) ≡ number 2 (record_for (entry_at es i) (offset_for es i)) at
unfolding records_of
in_records es zero i at l h = absurd (not-suc-le-zero l)
in_records es (suc n) i at l h =
    ⊎_elim
    (λ e. rw e (number_second 2 (records_of es n) (record_for (entry_at es n) (offset_for es n)) at (12 * n) (records_length es n)))
    (λ q. number_first 2 (records_of es n) _ (12 * i + at) (omega (arith, records_length es n)) ∙ in_records es n i at q h)
    (eq-or-lt_of_le (le_of_suc-le-suc l))

-- the string of entry i, in the strings
in_strings : (pool : List ℕ) (es : List Entry) (n : ℕ) → Within (length pool) es n → (i : ℕ) → i < n
    → take (entry_at es i).length (drop (offset_for es i) (strings_of pool es n)) ≡ text_for pool (entry_at es i)
unfolding strings_of
in_strings pool es zero w i l = absurd (not-suc-le-zero l)
in_strings pool es (suc n) w i l =
    ⊎_elim last (λ q. earlier q (in_strings pool es n ws i q)) (eq-or-lt_of_le (le_of_suc-le-suc l))
  where
    ws : Within (length pool) es n
    ws j q = w j (omega arith)

    ends : length (strings_of pool es n) ≡ offset_for es n
    ends = strings_length pool es n ws

    String : ℕ → Type 0
    String k = take (entry_at es k).length (drop (offset_for es k) (strings_of pool es n ++ text_for pool (entry_at es n))) ≡ text_for pool (entry_at es k)

    last : i ≡ n → String i
    last e =
        rw e (ap (take (entry_at es n).length) (drop_at (strings_of pool es n) (text_for pool (entry_at es n)) (offset_for es n) ends)
        ∙ take_all (entry_at es n).length (text_for pool (entry_at es n)) (omega (arith, text_length pool (entry_at es n) (w n (omega arith)))))

    earlier : i < n → take (entry_at es i).length (drop (offset_for es i) (strings_of pool es n)) ≡ text_for pool (entry_at es i) → String i
    earlier q before =
        let o = offset_ends es n i q in
        ap (take (entry_at es i).length) (drop-append-le (offset_for es i) (strings_of pool es n) (text_for pool (entry_at es n)) (omega (arith, ends)))
        ∙ take-append-le (entry_at es i).length (drop (offset_for es i) (strings_of pool es n)) (text_for pool (entry_at es n)) (omega (arith, ends, length-drop (offset_for es i) (strings_of pool es n)))
        ∙ before

-- ---- the whole table

module _ (pool : List ℕ) (es : List Entry) where
  abbrev n : ℕ
  n = length es

  abbrev t : List ℕ
  t = table_of pool es

  abbrev records : List ℕ
  records = records_of es (length es)

  abbrev strings : List ℕ
  strings = strings_of pool es (length es)

  front_format : number 2 t 0 ≡ 0
  unfolding table_of
  front_format = number_two 0 _

  front_count : number 2 t 2 ≡ length es
  unfolding table_of
  front_count = number_second 2 (two 0) _ 0 2 refl ∙ number_two n _

  front_storage : number 2 t 4 ≡ record_at (length es)
  unfolding table_of
  front_storage = number_second 2 (two 0 ++ two n) _ 0 4 refl ∙ number_two (record_at n) _

  module _ (i : ℕ) (l : i < length es) where
    abbrev e : Entry
    e = entry_at es i

    in_table : (at : ℕ) → at + 2 ≤ 12 → part t i at ≡ number 2 (record_for (entry_at es i) (offset_for es i)) at
    unfolding table_of
    in_table at h =
        let z : record_at i + at ≡ 6 + (12 * i + at) = omega arith in
        ap (number 2 (table_of pool es)) z
        ∙ number_second 2 (front_for n) (records ++ strings) (12 * i + at) 6 refl
        ∙ number_first 2 records strings (12 * i + at) (omega (arith, records_length es (length es)))
        ∙ in_records es (length es) i at l h

    record_key : key_of t i ≡ key_for (entry_at es i)
    unfolding key_of
    record_key =
        let a : part t i 0 ≡ e.platform = in_table 0 (omega arith) ∙ number_two e.platform _ in
        let b : part t i 2 ≡ e.encoding = in_table 2 (omega arith) ∙ number_second 2 (two e.platform) _ 0 2 refl ∙ number_two e.encoding _ in
        let c : part t i 4 ≡ e.language = in_table 4 (omega arith) ∙ number_second 2 (two e.platform ++ two e.encoding) _ 0 4 refl ∙ number_two e.language _ in
        let d : part t i 6 ≡ e.name =
        in_table 6 (omega arith) ∙ number_second 2 (two e.platform ++ (two e.encoding ++ two e.language)) _ 0 6 refl ∙ number_two e.name _ in
        λ k. record { platform = a k; encoding = b k; language = c k; name = d k }

    record_length : string_length t (text_at i) ≡ e.length
    record_length =
        in_table 8 (omega arith)
        ∙ number_second 2 (two e.platform ++ (two e.encoding ++ (two e.language ++ two e.name))) (two e.length ++ two (offset_for es i)) 0 8 refl ∙ number_two e.length _

    record_offset : string_offset t (text_at i) ≡ offset_for es i
    record_offset =
        let z : text_at i + 2 ≡ record_at i + 10 = omega arith in
        ap (number 2 t) z ∙ in_table 10 (omega arith)
        ∙ number_second 2 (two e.platform ++ (two e.encoding ++ (two e.language ++ (two e.name ++ two e.length)))) (two (offset_for es i) ++ []) 0 10 refl
        ∙ number_two (offset_for es i) []

  module _ (w : Within (length pool) es (length es)) where
    pub table_length : length (table_of pool es) ≡ size_for es
    unfolding table_of
    table_length =
        length-append (front_for n) (records ++ strings)
        ∙ omega (arith, length-append records strings, records_length es (length es), strings_length pool es (length es) w)

    -- the string of entry i, in the table
    text_at_lem : (i : ℕ) → i < length es → take (entry_at es i).length (drop (record_at (length es) + offset_for es i) (table_of pool es)) ≡ text_for pool (entry_at es i)
    unfolding table_of
    text_at_lem i l =
        ap (take (entry_at es i).length)
        (sym (drop-drop (offset_for es i) (record_at (length es)) (front_for n ++ (records ++ strings)))
        ∙ ap (drop (offset_for es i)) (ap (drop (record_at (length es))) (sym (append_assoc (front_for n) records strings))
        ∙ drop_at (front_for n ++ records) strings (record_at (length es)) (length-append (front_for n) records ∙ omega (arith, records_length es (length es)))))
        ∙ in_strings pool es (length es) w i l

    -- the bytes are the table of the entries
    pub table_is : TableOf pool es (table_of pool es)
    unfolding bytes_of
    table_is = record {
      plain = front_format;
      as_many = front_count;
      keys = record_key;
      lengths = record_length;
      directly = front_storage ∙ ap record_at (sym front_count);
      offsets = record_offset;
      copied = λ i l. rw (record_length i l, record_offset i l, front_storage) (text_at_lem i l);
      ends = table_length ∙ ap (λ (m : ℕ). m + offset_for es (length es)) (sym front_storage);
    }

-- The definitions are right for a writer: what is answered, what is written, and what is not touched.
-- Assumes nothing.
use Prim.Native.Nat.{ℕ, zero, suc, ◌+◌, ◌≤◌, ◌<◌}
use mathlib.Core.Path.{◌≡◌, refl, sym, ◌∙◌, ap, subst}
use mathlib.Core.Option.{Option, none, some}
use mathlib.Core.List.{List, [], ◌∷◌, ◌++◌}
use native.Mathlib.Omega.{arith}
use lib.ListN.{length, take, drop}
use lib.Seq.{take_at, drop_at, get_or-drop}
use Rattle.bigendian.specs.Numbers.{Bytes}
use Rattle.outcomes.specs.Outcomes.{Refusal, refused, answered}
use Rattle.outcomes.proofs.Laws.{when_none, then_none, passed, first_all, unless_answered, unless_refused}
use Rattle.name_layout.specs.Layout.{record_at}
use Rattle.name_store.specs.declared.Entry.{Entry}
use Rattle.name_store.specs.Entries.{entry_at, text_for, offset_for, size_for, Sixteen, Entries}
use Rattle.name_store.specs.Tables.{TableOf, two, front_for, record_for, records_of, strings_of, table_of}
use Rattle.name_store.specs.Writing.{unwritten, write_of, room_with, room_after}
use Rattle.name_store.specs.WriteSettled.{SoundBelow}
use Rattle.name_store.specs.Promises.{WriteRight, KeepsBytes}
use Rattle.name_store.proofs.Bounds.{not_many, enough}
use Rattle.name_store.proofs.Exactly.{sound_below, write_exactly}
use Rattle.name_store.proofs.Laid.{table_is, table_length}

-- what is not refused
pub unrefused : (es : List Entry) (p r : ℕ) → unwritten es p r ≡ none → SoundBelow es p (length es) × (size_for es ≤ r)
unfolding unwritten
unrefused es p r e =
    let a = (passed _ _ _).0 e in
    let b = (then_none _ _).0 a.1 in
    (sound_below es p ((not_many es).0 a.0) (length es) ((first_all _ _).0 b.0), (enough es r).0 ((when_none _ _).0 b.1))

held_at : {o : Option Refusal} {x : Refusal} (held written : List ℕ) → o ≡ some x → room_with o held written ≡ held
held_at held written e = ap (λ (o : Option Refusal). room_with o held written) e

module _ (es : List Entry) (pool room : List ℕ) where
  abbrev order : Option Refusal
  order = unwritten es (length pool) (length room)

  -- nothing is refused, and the length is the table's
  pub is_answered : (n : ℕ) → write_of es (length pool) (length room) ≡ answered n → (order ≡ none) × (size_for es ≡ n)
  unfolding write_of
  is_answered n e = let p = (unless_answered _ _ n).0 e in (p.0, cc)

  room_held : (x : Refusal) → order ≡ some x → room_after es pool room ≡ room
  unfolding room_after
  room_held x e = held_at room _ e

  untouched : (n : ℕ) (c : Option ℕ) → write_of es (length pool) (length room) ≡ refused n c → room_after es pool room ≡ room
  unfolding write_of
  untouched n c e = room_held _ ((unless_refused _ (size_for es) n c).0 e)

  module _ (e : order ≡ none) where
    pub room_is : room_after es pool room ≡ table_of pool es ++ drop (size_for es) room
    unfolding room_after
    room_is = ap (λ (o : Option Refusal). room_with o room (table_of pool es ++ drop (size_for es) room)) e

    long : length (table_of pool es) ≡ size_for es
    long = table_length pool es (λ i l. ((unrefused es (length pool) (length room) e).0.sound i l).inside)

    pub front_is : take (size_for es) (room_after es pool room) ≡ table_of pool es
    front_is = ap (take (size_for es)) room_is ∙ take_at (table_of pool es) (drop (size_for es) room) (size_for es) long

    rest_is : drop (size_for es) (room_after es pool room) ≡ drop (size_for es) room
    rest_is = ap (drop (size_for es)) room_is ∙ drop_at (table_of pool es) (drop (size_for es) room) (size_for es) long

    table : TableOf pool es (take (size_for es) (room_after es pool room))
    table = subst (TableOf pool es) (sym front_is) (table_is pool es (λ i l. ((unrefused es (length pool) (length room) e).0.sound i l).inside))

pub write_right : WriteRight write_of room_after
write_right = record {
  settled = write_exactly;
  untouched = untouched;
  written = λ es pool r n e.
      let p = is_answered es pool r n e in
      subst (λ (m : ℕ). TableOf pool es (take m (room_after es pool r)) × (drop m (room_after es pool r) ≡ drop m r)) p.1
      (table es pool r p.0, rest_is es pool r p.0);
}

-- ---- bytes

bytes_append : (xs ys : List ℕ) → Bytes xs → Bytes ys → Bytes (xs ++ ys)
bytes_append [] ys a b i = b i
bytes_append (x ∷ xs) ys a b zero = a 0
bytes_append (x ∷ xs) ys a b (suc i) = bytes_append xs ys (λ j. a (suc j)) b i

pub bytes_take : (n : ℕ) (xs : List ℕ) → Bytes xs → Bytes (take n xs)
bytes_take zero xs b i = omega arith
bytes_take (suc n) [] b i = b i
bytes_take (suc n) (x ∷ xs) b zero = b 0
bytes_take (suc n) (x ∷ xs) b (suc i) = bytes_take n xs (λ j. b (suc j)) i

bytes_drop : (n : ℕ) (xs : List ℕ) → Bytes xs → Bytes (drop n xs)
bytes_drop n xs b i = rw (get_or-drop n xs i 0) (b (n + i))

bytes_two : (x : ℕ) → x < 65536 → Bytes (two x)
bytes_two x l zero = omega arith
bytes_two x l (suc zero) = omega arith
bytes_two x l (suc (suc i)) = omega arith

two_more : (x : ℕ) → x < 65536 → (ys : List ℕ) → Bytes ys → Bytes (two x ++ ys)
two_more x l ys b = bytes_append (two x) ys (bytes_two x l) b

record_bytes : (e : Entry) → Sixteen e → (o : ℕ) → o < 65536 → Bytes (record_for e o)
record_bytes e s o l =
    let text : List ℕ = two e.length ++ two o in
    let name : List ℕ = two e.name ++ text in
    let language : List ℕ = two e.language ++ name in
    let encoding : List ℕ = two e.encoding ++ language in
    two_more e.platform s.platform encoding (two_more e.encoding s.encoding language (two_more e.language s.language name
    (two_more e.name s.name text (two_more e.length s.length (two o) (bytes_two o l)))))

module _ (es : List Entry) (sixteen : Entries es) where
  records_bytes : (n : ℕ) → n ≤ length es → ((i : ℕ) → i < n → offset_for es i ≤ 65535) → Bytes (records_of es n)
  unfolding records_of
  records_bytes zero l f = λ i. omega arith
  records_bytes (suc n) l f =
      let e : Entry = entry_at es n in
      let s : Sixteen e = sixteen n l in
      let h : offset_for es n < 65536 = let q = f n (omega arith) in omega arith in
      bytes_append (records_of es n) (record_for e (offset_for es n)) (records_bytes n (omega arith) (λ i q. f i (omega arith))) (record_bytes e s (offset_for es n) h)

  text_bytes : (pool : List ℕ) → Bytes pool → (e : Entry) → Bytes (text_for pool e)
  unfolding text_for
  text_bytes pool b e = bytes_take e.length (drop e.start pool) (bytes_drop e.start pool b)

  strings_bytes : (pool : List ℕ) → Bytes pool → (n : ℕ) → Bytes (strings_of pool es n)
  unfolding strings_of
  strings_bytes pool b zero = λ i. omega arith
  strings_bytes pool b (suc n) = bytes_append (strings_of pool es n) (text_for pool (entry_at es n)) (strings_bytes pool b n) (text_bytes pool b (entry_at es n))

  table_bytes : (pool : List ℕ) → Bytes pool → SoundBelow es (length pool) (length es) → Bytes (table_of pool es)
  unfolding table_of
  table_bytes pool b s =
      let m = s.few in
      let f : Bytes (front_for (length es)) =
      two_more 0 (omega arith) (two (length es) ++ two (record_at (length es))) (two_more (length es) (omega arith) (two (record_at (length es))) (bytes_two (record_at (length es)) (omega arith))) in
      bytes_append (front_for (length es)) (records_of es (length es) ++ strings_of pool es (length es)) f
      (bytes_append (records_of es (length es)) (strings_of pool es (length es)) (records_bytes (length es) (omega arith) (λ i l. (s.sound i l).near)) (strings_bytes pool b (length es)))

pub keeps_bytes : KeepsBytes room_after
keeps_bytes es pool r sixteen bp br = by (unwritten es (length pool) (length r)) refl
  where
    by : (o : Option Refusal) → unwritten es (length pool) (length r) ≡ o → Bytes (room_after es pool r)
    by none e =
        let t : Bytes (table_of pool es) = table_bytes es sixteen pool bp (unrefused es (length pool) (length r) e).0 in
        rw (room_is es pool r e) (bytes_append (table_of pool es) (drop (size_for es) r) t (bytes_drop (size_for es) r br))
    by (some x) e = rw (room_held es pool r x e) br

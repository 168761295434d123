-- Entries with what comes of writing them, worked out by hand from document 02, Ask 5: each refusal, each two that can meet, each boundary, and one table
-- written out as bytes.
use Rattle.std.specs.Prelude.{ℕ, zero, suc, ◌≡◌, List, [], ◌∷◌, ◌++◌, length}
use Rattle.std.proofs.Math.Option.{none, some}
use Rattle.outcomes.specs.Outcomes.{refused, answered}
use Rattle.name_store.specs.declared.Entry.{Entry}
use Rattle.name_store.specs.Entries.{text_for}
use Rattle.name_store.specs.Tables.{table_of}
use Rattle.name_store.specs.Writing.{write_of, room_after}

-- an entry by its platform, language, name, start and length; its encoding is 1
abbrev entry : ℕ → ℕ → ℕ → ℕ → ℕ → Entry
entry p l n s len = record { platform = p; encoding = 1; language = l; name = n; start = s; length = len }

-- one by its encoding and language
abbrev spoken : ℕ → ℕ → Entry
spoken c l = record { platform = 3; encoding = c; language = l; name = 1; start = 0; length = 0 }

-- one on platform 3 in language 0x409
abbrev english : ℕ → ℕ → ℕ → Entry
english n s len = entry 3 1033 n s len

-- so many entries, all with a text past the pool's end
abbrev many : ℕ → List Entry
many zero = []
many (suc n) = english 1 100 1 ∷ many n

-- ---- a table

-- three texts in a pool of six bytes: one inside another, and an empty one at the pool's end
abbrev pool : List ℕ
pool = 65 ∷ 66 ∷ 67 ∷ 68 ∷ 69 ∷ 70 ∷ []

abbrev three : List Entry
three = entry 1 258 772 1 4 ∷ english 5 2 2 ∷ english 6 6 0 ∷ []

abbrev three_bytes : List ℕ
three_bytes =
    0 ∷ 0 ∷ 0 ∷ 3 ∷ 0 ∷ 42 ∷
    0 ∷ 1 ∷ 0 ∷ 1 ∷ 1 ∷ 2 ∷ 3 ∷ 4 ∷ 0 ∷ 4 ∷ 0 ∷ 0 ∷
    0 ∷ 3 ∷ 0 ∷ 1 ∷ 4 ∷ 9 ∷ 0 ∷ 5 ∷ 0 ∷ 2 ∷ 0 ∷ 4 ∷
    0 ∷ 3 ∷ 0 ∷ 1 ∷ 4 ∷ 9 ∷ 0 ∷ 6 ∷ 0 ∷ 0 ∷ 0 ∷ 6 ∷
    66 ∷ 67 ∷ 68 ∷ 69 ∷ 67 ∷ 68 ∷ []

-- so many bytes of a room
abbrev nines : ℕ → List ℕ
nines zero = []
nines (suc n) = 9 ∷ nines n

-- one text twice
abbrev twice : List Entry
twice = english 1 0 2 ∷ english 2 0 2 ∷ []

pub record TablesWritten : Type 0 where
  pub of_three : table_of pool three ≡ three_bytes
  -- "nothing shared"
  pub of_twice : table_of pool twice ≡
      0 ∷ 0 ∷ 0 ∷ 2 ∷ 0 ∷ 30 ∷ 0 ∷ 3 ∷ 0 ∷ 1 ∷ 4 ∷ 9 ∷ 0 ∷ 1 ∷ 0 ∷ 2 ∷ 0 ∷ 0 ∷ 0 ∷ 3 ∷ 0 ∷ 1 ∷ 4 ∷ 9 ∷ 0 ∷ 2 ∷ 0 ∷ 2 ∷ 0 ∷ 2 ∷ 65 ∷ 66 ∷ 65 ∷ 66 ∷ []
  -- an odd number of bytes
  pub of_odd : table_of pool (english 1 5 1 ∷ []) ≡ 0 ∷ 0 ∷ 0 ∷ 1 ∷ 0 ∷ 18 ∷ 0 ∷ 3 ∷ 0 ∷ 1 ∷ 4 ∷ 9 ∷ 0 ∷ 1 ∷ 0 ∷ 1 ∷ 0 ∷ 0 ∷ 70 ∷ []
  pub of_none : table_of [] [] ≡ 0 ∷ 0 ∷ 0 ∷ 0 ∷ 0 ∷ 6 ∷ []
  -- in a room of eight bytes, and in one of five
  pub room_of_none : room_after [] [] (91 ∷ 92 ∷ 93 ∷ 94 ∷ 95 ∷ 96 ∷ 97 ∷ 98 ∷ []) ≡ 0 ∷ 0 ∷ 0 ∷ 0 ∷ 0 ∷ 6 ∷ 97 ∷ 98 ∷ []
  pub room_of_five : room_after [] [] (91 ∷ 92 ∷ 93 ∷ 94 ∷ 95 ∷ []) ≡ 91 ∷ 92 ∷ 93 ∷ 94 ∷ 95 ∷ []
  -- with bytes past the table, and with a fault at the second entry
  pub room_of_three : room_after three pool (nines 50) ≡ three_bytes ++ (9 ∷ 9 ∷ [])
  pub room_of_fault : room_after (english 1 0 1 ∷ english 1 0 1 ∷ []) pool (nines 50) ≡ nines 50
  -- the start "isn't limited": b is the text of any entry that starts where b does and is as long
  pub of_part : (a b c : List ℕ) → text_for (a ++ (b ++ c)) (english 1 (length a) (length b)) ≡ b

-- ---- what is answered: entries, the pool's length, the room's length

pub record Answers : Type 0 where
  -- 33, and room exactly enough
  pub enough : write_of three 6 48 ≡ answered 48
  pub one_short : write_of three 6 47 ≡ refused 33 none
  pub none_enough : write_of [] 0 6 ≡ answered 6
  pub none_short : write_of [] 0 5 ≡ refused 33 none
  pub odd : write_of (english 1 5 1 ∷ []) 6 19 ≡ answered 19
  pub much_room : write_of [] 0 18446744069414584320 ≡ answered 6
  -- 30
  pub too_many : write_of (many 5461) 0 0 ≡ refused 30 none
  pub not_too_many : write_of (many 5460) 0 0 ≡ refused 31 (some 0)
  -- 31: "start plus length past the pool's end", with a start that "isn't limited"
  pub at_end : write_of (english 1 4 2 ∷ []) 6 20 ≡ answered 20
  pub past_end : write_of (english 1 4 3 ∷ []) 6 99 ≡ refused 31 (some 0)
  pub empty_at_end : write_of (english 1 6 0 ∷ []) 6 18 ≡ answered 18
  pub empty_past_end : write_of (english 1 7 0 ∷ []) 6 99 ≡ refused 31 (some 0)
  pub no_pool : write_of (english 1 0 0 ∷ []) 0 18 ≡ answered 18
  pub far_start : write_of (english 1 18446744069414584320 1 ∷ []) 18446744069414584321 19 ≡ answered 19
  pub no_wrapping : write_of (english 1 18446744073709551615 1 ∷ []) 6 99 ≡ refused 31 (some 0)
  pub no_wrapping_over : write_of (english 1 18446744073709551613 65535 ∷ []) 70000 99 ≡ refused 31 (some 0)
  -- 18
  pub last_plain : write_of (entry 3 32767 1 0 0 ∷ []) 0 18 ≡ answered 18
  pub language : write_of (entry 3 32768 1 0 0 ∷ []) 0 18 ≡ refused 18 (some 0)
  pub platform_239 : write_of (entry 239 32768 1 0 0 ∷ []) 0 18 ≡ refused 18 (some 0)
  pub platform_240 : write_of (entry 240 32768 1 0 0 ∷ []) 0 18 ≡ answered 18
  pub platform_255 : write_of (entry 255 65535 1 0 0 ∷ []) 0 18 ≡ answered 18
  pub platform_256 : write_of (entry 256 65535 1 0 0 ∷ []) 0 18 ≡ refused 18 (some 0)
  -- 17 and 19
  pub key_below : write_of (english 2 0 1 ∷ english 1 0 1 ∷ []) 6 99 ≡ refused 17 (some 1)
  pub key_equal : write_of (english 2 0 1 ∷ english 2 1 2 ∷ []) 6 99 ≡ refused 19 (some 1)
  pub allowed_equal : write_of (entry 240 40000 1 0 1 ∷ entry 240 40000 1 0 1 ∷ []) 6 99 ≡ refused 19 (some 1)
  pub platform_first : write_of (entry 3 1 1 0 1 ∷ entry 1 2 2 0 1 ∷ []) 6 99 ≡ refused 17 (some 1)
  pub encoding_first : write_of (spoken 1 2 ∷ spoken 2 1 ∷ []) 0 30 ≡ answered 30
  pub encoding_below : write_of (spoken 2 1 ∷ spoken 1 2 ∷ []) 0 30 ≡ refused 17 (some 1)
  -- 32: the offset of an entry, "above 65,535", an empty text's too; where it ends does not count
  pub offset_65535 : write_of (english 1 0 65535 ∷ english 2 0 65535 ∷ []) 65535 131100 ≡ answered 131100
  pub offset_65536 : write_of (english 1 0 65535 ∷ english 2 0 1 ∷ english 3 0 0 ∷ []) 65535 131100 ≡ refused 32 (some 2)
  -- two at one entry
  pub pool_language : write_of (entry 3 32768 1 7 0 ∷ []) 6 0 ≡ refused 31 (some 0)
  pub pool_below : write_of (english 2 0 1 ∷ english 1 7 0 ∷ []) 6 0 ≡ refused 31 (some 1)
  pub language_below : write_of (english 1 0 1 ∷ entry 1 40000 1 0 1 ∷ []) 6 0 ≡ refused 18 (some 1)
  pub pool_far : write_of (english 1 0 65535 ∷ english 2 0 1 ∷ english 3 65536 0 ∷ []) 65535 0 ≡ refused 31 (some 2)
  pub language_far : write_of (english 1 0 65535 ∷ english 2 0 1 ∷ entry 4 40000 3 0 0 ∷ []) 65535 0 ≡ refused 18 (some 2)
  pub below_far : write_of (english 1 0 65535 ∷ english 2 0 1 ∷ english 1 0 0 ∷ []) 65535 0 ≡ refused 17 (some 2)
  pub equal_far : write_of (english 1 0 65535 ∷ english 2 0 1 ∷ english 2 0 0 ∷ []) 65535 0 ≡ refused 19 (some 2)
  -- two at different entries: the earlier entry's, whatever it is
  pub below_then_pool : write_of (english 2 0 1 ∷ english 1 0 1 ∷ english 3 7 0 ∷ []) 6 0 ≡ refused 17 (some 1)
  pub far_then_pool : write_of (english 1 0 65535 ∷ english 2 0 1 ∷ english 3 0 0 ∷ english 4 65536 0 ∷ []) 65535 0 ≡ refused 32 (some 2)
  pub far_then_equal : write_of (english 1 0 65535 ∷ english 2 0 1 ∷ english 3 0 0 ∷ english 3 0 0 ∷ []) 65535 0 ≡ refused 32 (some 2)
  -- "last 33"
  pub language_before_room : write_of (entry 3 40000 1 0 1 ∷ []) 6 0 ≡ refused 18 (some 0)
  pub fault_before_room : write_of (english 1 0 1 ∷ english 2 7 0 ∷ []) 6 0 ≡ refused 31 (some 1)

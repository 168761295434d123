-- Document 02, Ask 8, worked out by hand: the steps among any number of keys, and what is reported of whole tables.
use Rattle.std.specs.Prelude.{ℕ, ◌+◌, ◌-◌, ◌*◌, ◌≡◌, List, [], ◌∷◌, ◌++◌, map, length}
use Rattle.std.proofs.Math.Option.{none, some}
use Rattle.outcomes.specs.Outcomes.{refused}
use Rattle.name_layout.specs.Keys.{Key, key_from}
use Rattle.name.specs.Acceptance.{check_of}
use Rattle.name_search.specs.Steps.{looks_among}
use Rattle.name_lookup.specs.Answers.{looked_of}
use Rattle.worked_examples.specs.Records.{words}
use Rattle.worked_examples.specs.Which.{five, with_tag}

-- ---- the steps

-- the keys 1, 3, 5, .. in the last part, so that what is even lies in a gap
abbrev pub lasts : ℕ → Key
lasts i = key_from 0 0 0 (2 * i + 1)

abbrev pub up_to_18 : List ℕ
up_to_18 = 0 ∷ 1 ∷ 2 ∷ 3 ∷ 4 ∷ 5 ∷ 6 ∷ 7 ∷ 8 ∷ 9 ∷ 10 ∷ 11 ∷ 12 ∷ 13 ∷ 14 ∷ 15 ∷ 16 ∷ 17 ∷ 18 ∷ []

-- 0, 1, .., 18 sought among 0, 1, .., 9 keys: each key, and the gaps below, between and above
abbrev pub Sizes : Type 0
Sizes = map (λ n. map (λ j. looks_among lasts (key_from 0 0 0 j) n) up_to_18) (0 ∷ 1 ∷ 2 ∷ 3 ∷ 4 ∷ 5 ∷ 6 ∷ 7 ∷ 8 ∷ 9 ∷ [])
    ≡ (0 ∷ 0 ∷ 0 ∷ 0 ∷ 0 ∷ 0 ∷ 0 ∷ 0 ∷ 0 ∷ 0 ∷ 0 ∷ 0 ∷ 0 ∷ 0 ∷ 0 ∷ 0 ∷ 0 ∷ 0 ∷ 0 ∷ [])
    ∷ (1 ∷ 1 ∷ 1 ∷ 1 ∷ 1 ∷ 1 ∷ 1 ∷ 1 ∷ 1 ∷ 1 ∷ 1 ∷ 1 ∷ 1 ∷ 1 ∷ 1 ∷ 1 ∷ 1 ∷ 1 ∷ 1 ∷ [])
    ∷ (2 ∷ 2 ∷ 2 ∷ 1 ∷ 1 ∷ 1 ∷ 1 ∷ 1 ∷ 1 ∷ 1 ∷ 1 ∷ 1 ∷ 1 ∷ 1 ∷ 1 ∷ 1 ∷ 1 ∷ 1 ∷ 1 ∷ [])
    ∷ (2 ∷ 2 ∷ 2 ∷ 1 ∷ 2 ∷ 2 ∷ 2 ∷ 2 ∷ 2 ∷ 2 ∷ 2 ∷ 2 ∷ 2 ∷ 2 ∷ 2 ∷ 2 ∷ 2 ∷ 2 ∷ 2 ∷ [])
    ∷ (3 ∷ 3 ∷ 3 ∷ 2 ∷ 2 ∷ 1 ∷ 2 ∷ 2 ∷ 2 ∷ 2 ∷ 2 ∷ 2 ∷ 2 ∷ 2 ∷ 2 ∷ 2 ∷ 2 ∷ 2 ∷ 2 ∷ [])
    ∷ (3 ∷ 3 ∷ 3 ∷ 2 ∷ 2 ∷ 1 ∷ 3 ∷ 3 ∷ 3 ∷ 2 ∷ 2 ∷ 2 ∷ 2 ∷ 2 ∷ 2 ∷ 2 ∷ 2 ∷ 2 ∷ 2 ∷ [])
    ∷ (3 ∷ 3 ∷ 3 ∷ 2 ∷ 3 ∷ 3 ∷ 3 ∷ 1 ∷ 3 ∷ 3 ∷ 3 ∷ 2 ∷ 2 ∷ 2 ∷ 2 ∷ 2 ∷ 2 ∷ 2 ∷ 2 ∷ [])
    ∷ (3 ∷ 3 ∷ 3 ∷ 2 ∷ 3 ∷ 3 ∷ 3 ∷ 1 ∷ 3 ∷ 3 ∷ 3 ∷ 2 ∷ 3 ∷ 3 ∷ 3 ∷ 3 ∷ 3 ∷ 3 ∷ 3 ∷ [])
    ∷ (4 ∷ 4 ∷ 4 ∷ 3 ∷ 3 ∷ 2 ∷ 3 ∷ 3 ∷ 3 ∷ 1 ∷ 3 ∷ 3 ∷ 3 ∷ 2 ∷ 3 ∷ 3 ∷ 3 ∷ 3 ∷ 3 ∷ [])
    ∷ (4 ∷ 4 ∷ 4 ∷ 3 ∷ 3 ∷ 2 ∷ 3 ∷ 3 ∷ 3 ∷ 1 ∷ 4 ∷ 4 ∷ 4 ∷ 3 ∷ 3 ∷ 2 ∷ 3 ∷ 3 ∷ 3 ∷ [])
    ∷ []

-- the keys 1, 3, 5, .. in another part, those behind it falling: each key, and the gaps, among 8
abbrev pub InPart : (ℕ → ℕ → Key) → Type 0
InPart part =
    (map (λ j. looks_among (λ i. part (2 * i + 1) (60 - i)) (part (2 * j + 1) (60 - j)) 8) (0 ∷ 1 ∷ 2 ∷ 3 ∷ 4 ∷ 5 ∷ 6 ∷ 7 ∷ []) ≡ 4 ∷ 3 ∷ 2 ∷ 3 ∷ 1 ∷ 3 ∷ 2 ∷ 3 ∷ [])
    × (map (λ j. looks_among (λ i. part (2 * i + 1) (60 - i)) (part (2 * j) 60) 8) (0 ∷ 1 ∷ 2 ∷ 3 ∷ 4 ∷ 5 ∷ 6 ∷ 7 ∷ 8 ∷ []) ≡ 4 ∷ 4 ∷ 3 ∷ 3 ∷ 3 ∷ 3 ∷ 3 ∷ 3 ∷ 3 ∷ [])

abbrev pub Parts : Type 0
Parts = InPart (λ x y. key_from x y y y) × InPart (λ x y. key_from 9 x y y) × InPart (λ x y. key_from 9 9 x y)

-- these sought among more keys, up to the most that a table has; 13 is the most
abbrev pub sought : List ℕ
sought = 0 ∷ 1 ∷ 3 ∷ 5 ∷ 11 ∷ 21 ∷ 43 ∷ 85 ∷ 171 ∷ 341 ∷ 683 ∷ 1365 ∷ 2729 ∷ 5459 ∷ 5460 ∷ 10917 ∷ 10918 ∷ 10919 ∷ 10920 ∷ []

abbrev pub Many : Type 0
Many = map (λ n. map (λ j. looks_among lasts (key_from 0 0 0 j) n) sought)
    (10 ∷ 15 ∷ 16 ∷ 17 ∷ 31 ∷ 32 ∷ 63 ∷ 64 ∷ 255 ∷ 256 ∷ 257 ∷ 1000 ∷ 4095 ∷ 4096 ∷ 5458 ∷ 5459 ∷ 5460 ∷ [])
    ≡ (4 ∷ 4 ∷ 3 ∷ 2 ∷ 1 ∷ 3 ∷ 3 ∷ 3 ∷ 3 ∷ 3 ∷ 3 ∷ 3 ∷ 3 ∷ 3 ∷ 3 ∷ 3 ∷ 3 ∷ 3 ∷ 3 ∷ [])
    ∷ (4 ∷ 4 ∷ 3 ∷ 4 ∷ 3 ∷ 4 ∷ 4 ∷ 4 ∷ 4 ∷ 4 ∷ 4 ∷ 4 ∷ 4 ∷ 4 ∷ 4 ∷ 4 ∷ 4 ∷ 4 ∷ 4 ∷ [])
    ∷ (5 ∷ 5 ∷ 4 ∷ 3 ∷ 4 ∷ 3 ∷ 4 ∷ 4 ∷ 4 ∷ 4 ∷ 4 ∷ 4 ∷ 4 ∷ 4 ∷ 4 ∷ 4 ∷ 4 ∷ 4 ∷ 4 ∷ [])
    ∷ (5 ∷ 5 ∷ 4 ∷ 3 ∷ 4 ∷ 4 ∷ 4 ∷ 4 ∷ 4 ∷ 4 ∷ 4 ∷ 4 ∷ 4 ∷ 4 ∷ 4 ∷ 4 ∷ 4 ∷ 4 ∷ 4 ∷ [])
    ∷ (5 ∷ 5 ∷ 4 ∷ 5 ∷ 4 ∷ 5 ∷ 4 ∷ 5 ∷ 5 ∷ 5 ∷ 5 ∷ 5 ∷ 5 ∷ 5 ∷ 5 ∷ 5 ∷ 5 ∷ 5 ∷ 5 ∷ [])
    ∷ (6 ∷ 6 ∷ 5 ∷ 4 ∷ 5 ∷ 4 ∷ 5 ∷ 5 ∷ 5 ∷ 5 ∷ 5 ∷ 5 ∷ 5 ∷ 5 ∷ 5 ∷ 5 ∷ 5 ∷ 5 ∷ 5 ∷ [])
    ∷ (6 ∷ 6 ∷ 5 ∷ 6 ∷ 5 ∷ 6 ∷ 5 ∷ 6 ∷ 6 ∷ 6 ∷ 6 ∷ 6 ∷ 6 ∷ 6 ∷ 6 ∷ 6 ∷ 6 ∷ 6 ∷ 6 ∷ [])
    ∷ (7 ∷ 7 ∷ 6 ∷ 5 ∷ 6 ∷ 5 ∷ 6 ∷ 5 ∷ 6 ∷ 6 ∷ 6 ∷ 6 ∷ 6 ∷ 6 ∷ 6 ∷ 6 ∷ 6 ∷ 6 ∷ 6 ∷ [])
    ∷ (8 ∷ 8 ∷ 7 ∷ 8 ∷ 7 ∷ 8 ∷ 7 ∷ 8 ∷ 7 ∷ 8 ∷ 8 ∷ 8 ∷ 8 ∷ 8 ∷ 8 ∷ 8 ∷ 8 ∷ 8 ∷ 8 ∷ [])
    ∷ (9 ∷ 9 ∷ 8 ∷ 7 ∷ 8 ∷ 7 ∷ 8 ∷ 7 ∷ 8 ∷ 7 ∷ 8 ∷ 8 ∷ 8 ∷ 8 ∷ 8 ∷ 8 ∷ 8 ∷ 8 ∷ 8 ∷ [])
    ∷ (9 ∷ 9 ∷ 8 ∷ 7 ∷ 8 ∷ 7 ∷ 8 ∷ 7 ∷ 8 ∷ 8 ∷ 8 ∷ 8 ∷ 8 ∷ 8 ∷ 8 ∷ 8 ∷ 8 ∷ 8 ∷ 8 ∷ [])
    ∷ (10 ∷ 10 ∷ 9 ∷ 10 ∷ 9 ∷ 10 ∷ 9 ∷ 10 ∷ 10 ∷ 10 ∷ 8 ∷ 10 ∷ 9 ∷ 9 ∷ 9 ∷ 9 ∷ 9 ∷ 9 ∷ 9 ∷ [])
    ∷ (12 ∷ 12 ∷ 11 ∷ 12 ∷ 11 ∷ 12 ∷ 11 ∷ 12 ∷ 11 ∷ 12 ∷ 11 ∷ 12 ∷ 12 ∷ 11 ∷ 12 ∷ 12 ∷ 12 ∷ 12 ∷ 12 ∷ [])
    ∷ (13 ∷ 13 ∷ 12 ∷ 11 ∷ 12 ∷ 11 ∷ 12 ∷ 11 ∷ 12 ∷ 11 ∷ 12 ∷ 11 ∷ 10 ∷ 12 ∷ 12 ∷ 12 ∷ 12 ∷ 12 ∷ 12 ∷ [])
    ∷ (13 ∷ 13 ∷ 12 ∷ 11 ∷ 10 ∷ 9 ∷ 8 ∷ 7 ∷ 6 ∷ 5 ∷ 4 ∷ 3 ∷ 2 ∷ 1 ∷ 13 ∷ 12 ∷ 12 ∷ 12 ∷ 12 ∷ [])
    ∷ (13 ∷ 13 ∷ 12 ∷ 11 ∷ 10 ∷ 9 ∷ 8 ∷ 7 ∷ 6 ∷ 5 ∷ 4 ∷ 3 ∷ 2 ∷ 1 ∷ 13 ∷ 12 ∷ 12 ∷ 12 ∷ 12 ∷ [])
    ∷ (13 ∷ 13 ∷ 12 ∷ 11 ∷ 10 ∷ 9 ∷ 8 ∷ 7 ∷ 6 ∷ 5 ∷ 4 ∷ 3 ∷ 12 ∷ 12 ∷ 12 ∷ 11 ∷ 12 ∷ 12 ∷ 12 ∷ [])
    ∷ []

-- ---- the reports of five records: each one's key, and keys below, between and above them

abbrev pub Keys : Type 0
Keys = map (looked_of five) (key_from 0 3 0 6 ∷ key_from 1 0 0 5 ∷ key_from 1 0 0 6 ∷ key_from 3 1 1033 5 ∷ key_from 3 1 1033 6 ∷ []) ≡ 3 ∷ 2 ∷ 1 ∷ 3 ∷ 2 ∷ []

abbrev pub Gaps : Type 0
Gaps = map (looked_of five)
    (key_from 0 0 0 0 ∷ key_from 0 3 0 7 ∷ key_from 1 0 0 0 ∷ key_from 1 0 0 7 ∷ key_from 3 1 1033 4 ∷ key_from 3 1 1033 7 ∷ key_from 65535 65535 65535 65535 ∷ [])
    ≡ 3 ∷ 3 ∷ 3 ∷ 3 ∷ 3 ∷ 2 ∷ 2 ∷ []

-- in format 1
abbrev pub Tagged : Type 0
Tagged = map (looked_of with_tag)
    (key_from 1 0 0 4 ∷ key_from 1 0 0 5 ∷ key_from 1 0 0 6 ∷ key_from 3 1 1033 6 ∷ key_from 3 1 32768 6 ∷ key_from 1 0 0 0 ∷ key_from 1 0 0 7 ∷ key_from 3 1 1033 7
    ∷ key_from 3 1 32768 7 ∷ [])
    ≡ 3 ∷ 2 ∷ 1 ∷ 3 ∷ 2 ∷ 3 ∷ 3 ∷ 3 ∷ 2 ∷ []

-- ---- parts of 65,535, which a record has, and above, which none has: such a key is above all records that have the parts before it, and below the next

-- tables of records with these keys and empty strings
unfoldable pub records_of : List Key → List ℕ
records_of [] = []
records_of (k ∷ ks) = k.platform ∷ k.encoding ∷ k.language ∷ k.name ∷ 0 ∷ 0 ∷ records_of ks

abbrev pub table₀ : List Key → List ℕ
table₀ ks = words (0 ∷ length ks ∷ (6 + 12 * length ks) ∷ records_of ks)

abbrev pub table₁ : List Key → List ℕ
table₁ ks = words (1 ∷ length ks ∷ (8 + 12 * length ks) ∷ (records_of ks ++ (0 ∷ [])))

abbrev pub one : List Key
one = key_from 0 0 0 0 ∷ []

abbrev pub four : List Key
four = key_from 0 0 0 0 ∷ key_from 0 0 0 1 ∷ key_from 0 0 0 2 ∷ key_from 0 0 0 3 ∷ []

abbrev pub six : List Key
six = key_from 65535 65535 1 0 ∷ key_from 65535 65535 1 1 ∷ key_from 65535 65535 1 2 ∷ key_from 65535 65535 1 3 ∷ key_from 65535 65535 1 4 ∷ key_from 65535 65535 1 5 ∷ []

-- the next to a key with a part above 65,535 is also what a carry into the part before it would give; a format 1 table without tags has no language of 65,535
abbrev pub edges₀ : List Key
edges₀ =
    key_from 240 0 65535 0 ∷ key_from 240 0 65535 65535 ∷ key_from 240 1 0 0 ∷ key_from 240 1 0 65535 ∷ key_from 240 1 1 0 ∷ key_from 240 65535 0 0 ∷ key_from 241 0 0 0
    ∷ key_from 65535 0 0 0 ∷ key_from 65535 65535 0 65535 ∷ []

abbrev pub edges₁ : List Key
edges₁ =
    key_from 240 0 0 0 ∷ key_from 240 0 32767 65535 ∷ key_from 240 1 0 0 ∷ key_from 240 1 0 65535 ∷ key_from 240 1 1 0 ∷ key_from 240 65535 0 0 ∷ key_from 241 0 0 0
    ∷ key_from 65535 0 0 0 ∷ key_from 65535 65535 0 65535 ∷ []

-- each record's own key
abbrev pub Own : Type 0
Own =
    (map (looked_of (table₀ (one ++ edges₀))) edges₀ ≡ 3 ∷ 2 ∷ 4 ∷ 3 ∷ 1 ∷ 4 ∷ 3 ∷ 2 ∷ 3 ∷ [])
    × (map (looked_of (table₁ (one ++ edges₁))) edges₁ ≡ 3 ∷ 2 ∷ 4 ∷ 3 ∷ 1 ∷ 4 ∷ 3 ∷ 2 ∷ 3 ∷ [])

abbrev pub above : List ℕ
above = 65536 ∷ 65537 ∷ 131072 ∷ 16777216 ∷ 2147549183 ∷ 4294967295 ∷ []

abbrev pub times6 : ℕ → List ℕ
times6 n = n ∷ n ∷ n ∷ n ∷ n ∷ n ∷ []

-- each of them in each place
abbrev pub Above : List ℕ → (platform encoding language name : ℕ) → Type 0
Above t p e l n =
    (map (λ v. looked_of t (key_from v 0 0 0)) above ≡ times6 p)
    × (map (λ v. looked_of t (key_from 240 v 0 0)) above ≡ times6 e)
    × (map (λ v. looked_of t (key_from 240 0 v 0)) above ≡ times6 l)
    × (map (λ v. looked_of t (key_from 240 1 0 v)) above ≡ times6 n)

abbrev pub Above₀ : Type 0
Above₀ = Above (table₀ (one ++ edges₀)) 3 4 4 3 × Above (table₀ (one ++ edges₀ ++ six)) 4 4 4 4 × Above (table₀ (four ++ edges₀)) 3 4 3 4

abbrev pub Above₁ : Type 0
Above₁ = Above (table₁ (one ++ edges₁)) 3 4 4 3 × Above (table₁ (one ++ edges₁ ++ six)) 4 4 4 4 × Above (table₁ (four ++ edges₁)) 3 4 3 4

-- in two places
abbrev pub Two : Type 0
Two = map (looked_of (table₀ (four ++ edges₀)))
    (key_from 65536 65536 0 0 ∷ key_from 240 65536 65536 0 ∷ key_from 240 65536 0 65536 ∷ key_from 240 0 65536 65536 ∷ key_from 65536 0 0 65536 ∷ [])
    ≡ 3 ∷ 4 ∷ 4 ∷ 3 ∷ 3 ∷ []

-- ---- empty tables of both formats, one record; and tables that are refused: each refusal with a record that a search would look at

abbrev pub unrefused : List (List ℕ)
unrefused = table₀ [] ∷ table₁ [] ∷ table₀ (key_from 1 0 0 5 ∷ []) ∷ table₁ (key_from 1 0 0 5 ∷ []) ∷ []

abbrev pub faulty : List (List ℕ)
faulty =
    (0 ∷ 0 ∷ 0 ∷ 1 ∷ 0 ∷ [])
    ∷ words (2 ∷ 1 ∷ 18 ∷ 1 ∷ 0 ∷ 0 ∷ 5 ∷ 0 ∷ 0 ∷ [])
    ∷ words (0 ∷ 2 ∷ 18 ∷ 1 ∷ 0 ∷ 0 ∷ 5 ∷ 0 ∷ 0 ∷ [])
    ∷ words (1 ∷ 1 ∷ 18 ∷ 1 ∷ 0 ∷ 0 ∷ 5 ∷ 0 ∷ 0 ∷ [])
    ∷ words (0 ∷ 1 ∷ 19 ∷ 1 ∷ 0 ∷ 0 ∷ 5 ∷ 0 ∷ 0 ∷ [])
    ∷ words (0 ∷ 1 ∷ 18 ∷ 1 ∷ 0 ∷ 0 ∷ 5 ∷ 0 ∷ 1 ∷ [])
    ∷ words (0 ∷ 1 ∷ 18 ∷ 1 ∷ 0 ∷ 0 ∷ 5 ∷ 1 ∷ 0 ∷ [])
    ∷ words (0 ∷ 2 ∷ 30 ∷ 1 ∷ 0 ∷ 0 ∷ 5 ∷ 0 ∷ 0 ∷ 1 ∷ 0 ∷ 32768 ∷ 5 ∷ 0 ∷ 0 ∷ [])
    ∷ words (0 ∷ 2 ∷ 30 ∷ 1 ∷ 0 ∷ 0 ∷ 6 ∷ 0 ∷ 0 ∷ 1 ∷ 0 ∷ 0 ∷ 5 ∷ 0 ∷ 0 ∷ [])
    ∷ words (0 ∷ 2 ∷ 30 ∷ 1 ∷ 0 ∷ 0 ∷ 5 ∷ 0 ∷ 0 ∷ 1 ∷ 0 ∷ 0 ∷ 5 ∷ 0 ∷ 0 ∷ [])
    ∷ words (1 ∷ 1 ∷ 24 ∷ 1 ∷ 0 ∷ 0 ∷ 5 ∷ 0 ∷ 0 ∷ 1 ∷ 1 ∷ 0 ∷ [])
    ∷ []

abbrev pub Ends : Type 0
Ends =
    (map (λ t. looked_of t (key_from 1 0 0 5)) unrefused ≡ 0 ∷ 0 ∷ 1 ∷ 1 ∷ [])
    × (map check_of faulty
    ≡ refused 10 none ∷ refused 11 none ∷ refused 12 none ∷ refused 13 none ∷ refused 14 none ∷ refused 15 (some 0) ∷ refused 27 (some 0) ∷ refused 18 (some 1)
    ∷ refused 17 (some 1) ∷ refused 19 (some 1) ∷ refused 16 (some 0) ∷ [])
    × (map (λ t. looked_of t (key_from 1 0 0 5)) faulty ≡ 0 ∷ 0 ∷ 0 ∷ 0 ∷ 0 ∷ 0 ∷ 0 ∷ 0 ∷ 0 ∷ 0 ∷ 0 ∷ [])

-- Document 01, "The writer": what 48 whole numbers and lent room give.
use Rattle.std.specs.Prelude.{ℕ, zero, suc, ◌-◌, ◌/◌, ◌^◌, ◌<◌, ◌≤◌, ◌≡◌, Bool, true, cond, not, ◌&&◌, List, ltb, leb, length, get_or, take, drop, ℤ, pos, negsuc}
use Rattle.std.proofs.Math.Option.{Option}
use Rattle.outcomes.specs.Firsts.{when, ◌then◌, first_among}
use Rattle.outcomes.specs.Outcomes.{Refusal, bare, carrying, Outcome, refused, answered, unless}
use Rattle.level.specs.Levels.{newest}
use Rattle.level.specs.Sizes.{table_size}
use Rattle.bigendian.specs.Numbers.{stored}
use Rattle.os2_rules.specs.Tests.{verdict_of}
use Rattle.os2_fields.specs.declared.catalogue.Field.{Field}
use Rattle.os2_fields.specs.Catalogue.{field_count, field_of}
use Rattle.os2_fields.specs.Fields.{values_of}

-- ---- the numbers

-- "It takes 48 whole numbers": the one for field k
abbrev pub number_for : List ℤ → ℕ → ℤ
number_for xs k = get_or xs k (pos 0)

-- a whole number fits a field: 0 and above, below 256 to its bytes; in a signed one, the lower and the upper half of these around 0
unfoldable pub fits : Field → ℤ → Bool
fits f (pos x) = ltb x (cond f.signed (256 ^ f.width / 2) (256 ^ f.width))
fits f (negsuc x) = f.signed && ltb x (256 ^ f.width / 2)

-- what the bytes of a field then make
unfoldable pub code_of : Field → ℤ → ℕ
code_of f (pos x) = x
code_of f (negsuc x) = 256 ^ f.width - suc x

abbrev pub code_for : List ℤ → ℕ → ℕ
code_for xs k = code_of (field_of k) (number_for xs k)

-- "field 0 is the version"
abbrev pub version_for : List ℤ → ℕ
version_for xs = code_for xs 0

-- ---- the refusals

-- 4: "asked to write a version outside 0 to 5"
unfoldable pub no_version : ℤ → Bool
no_version (pos v) = ltb newest v
no_version (negsuc v) = true

-- 5: "room to write is shorter than the version's size"; r is the length of the room
unfoldable pub has_no_room : ℕ → ℕ → Bool
has_no_room v r = ltb r (table_size v)

-- version v has field k: "Numbers for fields that the version lacks are not looked at."
unfoldable pub has : ℕ → ℕ → Bool
has v k = leb (field_of k).since v

-- 8: "a value to write doesn't fit its field"
unfoldable pub misfit : ℕ → List ℤ → ℕ → Bool
misfit v xs k = has v k && not (fits (field_of k) (number_for xs k))

abbrev pub misfit_at : ℕ → List ℤ → ℕ → Option Refusal
misfit_at v xs k = when (misfit v xs k) (carrying 8 k)

-- "Writer: 4, 5, 8, 3"; 8 carries the "lowest such field", and "The value rules hold as at level 5."
unfoldable pub unwritten : List ℤ → ℕ → Option Refusal
unwritten xs r =
    when (no_version (number_for xs 0)) (bare 4)
    then when (has_no_room (version_for xs) r) (bare 5)
    then first_among (misfit_at (version_for xs) xs) field_count
    then verdict_of (values_of (code_for xs))

-- ---- what is written

-- it "answers that size"
unfoldable pub write : List ℤ → ℕ → Outcome ℕ
write xs r = unless (unwritten xs r) (answered (table_size (version_for xs)))

-- the room once the fields below n that version v has are stored in it
unfoldable pub image : ℕ → List ℤ → List ℕ → ℕ → List ℕ
image v xs room zero = room
image v xs room (suc n) =
    cond (has v n)
    (stored (field_of n).width (image v xs room n) (field_of n).offset (code_for xs n))
    (image v xs room n)

-- "Memory lent for writing then holds what it held", after a refusal
abbrev pub where_written : Outcome ℕ → List ℕ → List ℕ → List ℕ
where_written (refused n c) table room = room
where_written (answered size) table room = table

unfoldable pub room_after : List ℤ → List ℕ → List ℕ
room_after xs room = where_written (write xs (length room)) (image (version_for xs) xs room field_count) room

-- ---- of any writer

-- "It writes exactly the version's size, answers that size and touches no later byte"; after a refusal "Memory lent for writing then holds what it
-- held"
abbrev pub TouchesOnly : (List ℤ → ℕ → Outcome ℕ) → (List ℤ → List ℕ → List ℕ) → Type 0
TouchesOnly result room =
    (xs : List ℤ) (r : List ℕ) →
    ((n : ℕ) (c : Option ℕ) → result xs (length r) ≡ refused n c → room xs r ≡ r) ×
    ((n : ℕ) → result xs (length r) ≡ answered n →
    (v : ℕ) → number_for xs 0 ≡ pos v → (n ≡ table_size v) × (drop (table_size v) (room xs r) ≡ drop (table_size v) r))

-- "It writes exactly the version's size": what it writes does not depend on what the room held, so every byte of the table is written
abbrev pub WritesAll : (List ℤ → ℕ → Outcome ℕ) → (List ℤ → List ℕ → List ℕ) → Type 0
WritesAll result room =
    (xs : List ℤ) (r s : List ℕ) (m n : ℕ) → result xs (length r) ≡ answered m → result xs (length s) ≡ answered n → (m ≡ n) × (take m (room xs r) ≡ take n (room xs s))

-- field k is one of version v's
abbrev pub InVersion : ℕ → ℕ → Type 0
InVersion v k = (k < field_count) × ((field_of k).since ≤ v)

-- "Numbers for fields that the version lacks are not looked at.": numbers that agree on the version's fields give the same result and the same room
abbrev pub LooksAtNoOther : (List ℤ → ℕ → Outcome ℕ) → (List ℤ → List ℕ → List ℕ) → Type 0
LooksAtNoOther result room =
    (xs ys : List ℤ) (v : ℕ) → number_for xs 0 ≡ pos v → ((k : ℕ) → InVersion v k → number_for xs k ≡ number_for ys k) → (r : List ℕ) →
    (result xs (length r) ≡ result ys (length r)) × (room xs r ≡ room ys r)

-- the first bytes of the room, up to version v's size, are those of b, and the others are what they were in r
abbrev pub Holds : ℕ → List ℕ → List ℕ → List ℕ → Type 0
Holds v b r room = (take (table_size v) room ≡ take (table_size v) b) × (drop (table_size v) room ≡ drop (table_size v) r)

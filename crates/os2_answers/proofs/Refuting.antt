-- The two bad builds that demand 2's round trips shut out, as theorems over any writer and any reader, each assumed to be bad only on what must be
-- accepted. A room of zeros breaks rule 1, so a writer that writes nothing is not read back; two accepted tables of one version that differ in one field
-- are not both rewritten from the same values.
-- Assumes nothing.
use Prim.Native.Nat.{ℕ, zero, suc, ◌<◌}
use mathlib.Core.Path.{◌≡◌, refl, sym, ap, ◌∙◌}
use mathlib.Core.Bool.{Bool, true, false, ◌&&◌}
use mathlib.Core.List.{List, [], ◌∷◌}
use native.Mathlib.Omega.{arith}
use lib.Dec.{T, ltb}
use lib.ListN.{length, get_or, take, replicate}
use lib.IntN.{ℤ, pos}
use borrow.Author.Tests.{ltb-true}
use Rattle.outcomes.specs.Firsts.{when, ◌then◌, first_among}
use Rattle.outcomes.specs.Outcomes.{Outcome, answered, unless}
use Rattle.level.specs.Levels.{newest}
use Rattle.level.specs.Sizes.{table_size}
use Rattle.bigendian.specs.Numbers.{number, Bytes}
use Rattle.os2_rules.proofs.Exactly.{plain_kept}
use Rattle.os2_fields.specs.Catalogue.{catalogue, field_of}
use Rattle.os2_fields.specs.Fields.{raw_in, version, values_of}
use Rattle.os2_store.specs.Writing.{fits, code_of, no_version, has_no_room, has, misfit, unwritten, write, room_after, InVersion}
use Rattle.os2_acceptance.specs.Acceptance.{under_two, under_size, short, ruling, judged}
use Rattle.os2_acceptance.specs.Settled.{Accepted}
use Rattle.os2_acceptance.proofs.Accepting.{judged_exactly}
use Rattle.os2_questions.specs.declared.Question.{Question}
use Rattle.os2_questions.specs.declared.Question.TheVariants.{Field}
use Rattle.os2_answers.specs.Values.{Said}
use Rattle.os2_answers.specs.RoundTrips.{Gives, ReadsBack, Rewrites}

-- ---- a writer that writes nothing

-- weight 400, width 5, all others 0
numbers : List ℤ
numbers = pos 0 ∷ pos 0 ∷ pos 400 ∷ pos 5 ∷ replicate 44 (pos 0)

numbers_written : write numbers 78 ≡ answered 78
unfolding numbers write unwritten unless when ◌then◌ first_among no_version has_no_room has fits code_of misfit values_of field_of catalogue table_size
numbers_written = rw plain_kept

zeros_refused : Accepted newest (replicate 78 0) → ⊥
unfolding values_of raw_in field_of catalogue number
zeros_refused a = omega (arith, ((a.ruled (omega arith) 1).rule_1 refl).0)

-- a writer that, where ours answers a size, answers it too and leaves the room as it was, whatever it does elsewhere
pub not_writing_nothing : (read : ℕ → List ℕ → Question → Outcome Said) (result : List ℤ → ℕ → Outcome ℕ) (room : List ℤ → List ℕ → List ℕ) →
    ((xs : List ℤ) (r : List ℕ) (n : ℕ) → write xs (length r) ≡ answered n → (result xs (length r) ≡ answered n) × (room xs r ≡ r)) →
    ReadsBack read result room → ⊥
unfolding numbers
not_writing_nothing read result room still d =
    let s = still numbers (replicate 78 0) 78 numbers_written in
    let a = (d numbers (replicate 78 0) 0 78 refl s.0 []).0 in
    zeros_refused (rw s.1 at a)

-- ---- a reader that reads the same values out of every table

-- version 0, weight 400, width 5, all others 0 but the average width
table : ℕ → List ℕ
table x = 0 ∷ 0 ∷ 0 ∷ x ∷ 1 ∷ 144 ∷ 0 ∷ 5 ∷ replicate 70 0

-- each element is below 256
abbrev small : List ℕ → Bool
small [] = true
small (x ∷ l) = ltb x 256 && small l

bytes : (l : List ℕ) → T (small l) → Bytes l
bytes [] t i = omega arith
bytes (x ∷ l) t zero = at (ltb x 256) refl t
  where
    at : (s : Bool) → ltb x 256 ≡ s → T (s && small l) → x < 256
    at true e u = ltb-true x 256 e
    at false e u = absurd u
bytes (x ∷ l) t (suc i) = bytes l (at (ltb x 256) t) i
  where
    at : (s : Bool) → T (s && small l) → T (small l)
    at true u = u
    at false u = absurd u

table_version : (x : ℕ) → version (table x) ≡ 0
unfolding table raw_in field_of catalogue number
table_version x = refl

table_accepted : (x : ℕ) → Accepted newest (table x)
unfolding table judged short under_two under_size ruling ◌then◌ when values_of raw_in field_of catalogue number table_size
table_accepted x = (judged_exactly newest (table x)).0 plain_kept

-- a reader that at level 5 gives the same values for all accepted tables of one version, whatever it does elsewhere
pub not_same_values : (read : ℕ → List ℕ → Question → Outcome Said) →
    ((b c : List ℕ) → Accepted newest b → Accepted newest c → version b ≡ version c →
    (k : ℕ) → InVersion (version b) k → read newest b (Field k) ≡ read newest c (Field k)) →
    Rewrites read write room_after → ⊥
unfolding table table_size
not_same_values read same d = clash (rewritten 0 tt).0
  where
    rewritten : (x : ℕ) → T (small (table x)) →
        ((xs : List ℤ) × Gives read 0 (table x) xs) × ((xs : List ℤ) → Gives read 0 (table x) xs → take 78 (room_after xs (replicate 78 0)) ≡ table x)
    rewritten x h =
        let t = rw (table_version x) at (d (table x) (bytes (table x) h) (rw (table_version x) (omega arith)) (table_accepted x)) in
        (t.0, λ xs g. (t.1 xs g (replicate 78 0) (omega arith)).1.0)

    alike : (k : ℕ) → InVersion 0 k → read newest (table 1) (Field k) ≡ read newest (table 0) (Field k)
    alike k h =
        same (table 1) (table 0) (table_accepted 1) (table_accepted 0) (table_version 1 ∙ sym (table_version 0)) k (rw (table_version 1) h)

    clash : (xs : List ℤ) × Gives read 0 (table 0) xs → ⊥
    clash (xs, g) =
        let e : table 0 ≡ table 1 = sym ((rewritten 0 tt).1 xs g) ∙ (rewritten 1 tt).1 xs (λ k h. alike k h ∙ g k h) in
        let z : ◌≡◌ {A = ℕ} 0 1 = ap (λ (l : List ℕ). get_or l 3 0) e in
        omega arith

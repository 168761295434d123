-- From the words of C what a whole call says can be read back, so they lose nothing: no refusal in any order has the number 0, and each answer has its
-- members.
-- Assumes nothing.
use Prim.Native.Nat.{ℕ}
use mathlib.Core.Path.{◌≡◌, refl, subst}
use mathlib.Core.Bool.{Bool, true, false, cond}
use mathlib.Core.Option.{Option, none, some}
use mathlib.Core.List.{List}
use lib.Dec.{leb, eqb}
use lib.IntN.{ℤ}
use native.Mathlib.Omega.{arith}
use Rattle.outcomes.specs.Firsts.{when, ◌then◌}
use Rattle.outcomes.specs.Outcomes.{Refusal, bare, Outcome, refused, answered, unless, found_or}
use Rattle.outcomes.proofs.Laws.{Only, only_when, only_then, only_first}
use Rattle.outcomes.proofs.Tests.{unequal}
use Rattle.name_layout.specs.Keys.{Key, key_from}
use Rattle.name_layout.specs.Layout.{bytes_of}
use Rattle.name_search.specs.Searches.{record_with, text_of}
use Rattle.name.specs.Acceptance.{faults, check_of}
use Rattle.name.proofs.Acceptances.{not_tables}
use Rattle.name_lookup.specs.Answers.{lookup_of, looked_of}
use Rattle.name_answers.specs.Forms.{other_at, ill_formed, differ_at, differ}
use Rattle.name_answers.specs.Names.{from_strings, from_both, postscript_of}
use Rattle.name_answers.specs.Versions.{from_records, version_of}
use Rattle.name_store.specs.declared.Entry.{Entry}
use Rattle.name_store.specs.Writing as naming
use Rattle.os2_rules.specs.declared.Values.{Values}
use Rattle.os2_rules.specs.Tests.{verdict_of}
use Rattle.os2_fields.specs.Fields.{raw, version, values_of}
use Rattle.os2_store.specs.Writing.{unwritten, write}
use Rattle.os2_writer.specs.Rewriting.{unrewritten, rewritten}
use Rattle.os2_acceptance.specs.Acceptance.{ruling, judged, checked}
use Rattle.os2_questions.specs.declared.Question.{Question}
use Rattle.os2_questions.specs.declared.Question.TheVariants.{Field, SelectionBit, UnicodeBit, CodePageBit, Rights, StylePosition, OpticalSizes}
use Rattle.os2_questions.specs.declared.Case.{Case}
use Rattle.os2_questions.specs.declared.Case.TheVariants as Case·
use Rattle.os2_questions.specs.Questions.{own_refusal, since, on_whole}
use Rattle.os2_questions.specs.Cases.{case_of}
use Rattle.os2_answers.specs.Values.{integer, rights, position, sizes, Said, value, absent, not_known}
use Rattle.os2_answers.specs.Asking.{value_of, said_case, given, before_table, ask}
use Rattle.os2.specs.Replies.{kind_of, of_number}
use Rattle.refusal_words.specs.declared.GvRefusal.{GvRefusal}
use Rattle.refusal_words.specs.Words.{refusal_words, outcome_refusal}
use Rattle.refusal_words.proofs.ReadBack.{Numbered, Back, back_unless, check_said, check_back}
use Rattle.name_words.specs.Words.{found_words, text_words, version_words}
use Rattle.name_words.proofs.ReadBack.{found_said, found_back, looked_back, text_said, text_back, version_said, version_back, number_back}
use Rattle.os2_words.specs.Words.{members_of, number_words, rights_words, style_words, optical_words, written_words}
use Rattle.os2_words.proofs.ReadBack.{said_by, number_said, rights_said, style_said, sizes_in, optical_said, sizes_back, written_said, written_back}
use Rattle.name_search.specs.declared.Text.{Text}
use Rattle.choice.specs.declared.Want.{Want}
use Rattle.choice.specs.Faces.{Face, Slots}
use Rattle.choice.specs.Ranks.{request_of}
use Rattle.face.specs.Reading.{refusal_in, os2_fault, family_key, or_else, family_of, named, face_in}
use Rattle.chooser.specs.Calls.{before_tables, load_of, emptying, unload_of, done_of}
use Rattle.chooser_words.specs.Words.{chosen_words}
use Rattle.chooser_words.proofs.Words.{chosen_said, chosen_back}
use Rattle.comparing.specs.Comparisons.{Side}
use Rattle.comparing.specs.Comparisons.{Neither, Left, Right}
use Rattle.comparing.specs.Comparisons.{on, of, blame}
use Rattle.name_compare.specs.Comparisons as names
use Rattle.os2_compare.specs.Comparisons as fields
use Rattle.compare_words.specs.Words.{compared_words}
use Rattle.compare_words.proofs.ReadBack.{compared_said, compared_back}

-- ---- the orders: no number is 0

one : (test : Bool) (r : Refusal) → Numbered r → Only Numbered (when test r)
one test r e = only_when Numbered test r e

both : (a b : Option Refusal) → Only Numbered a → Only Numbered b → Only Numbered (a then b)
both a b p q = only_then Numbered a b p q

faults_numbered : (t : List ℕ) → Only Numbered (faults t)
faults_numbered t r e = (unequal r.number 0).1 (not_tables t 0 refl r e)

ill_numbered : (wide : Bool) (bytes : List ℕ) → Only Numbered (ill_formed wide bytes)
unfolding ill_formed other_at
ill_numbered wide bytes = both _ _ (one _ _ refl) (both _ _ (one _ _ refl) (only_first Numbered _ _ (λ k. one _ _ refl)))

differ_numbered : (first second : List ℕ) → Only Numbered (differ first second)
unfolding differ differ_at
differ_numbered first second = both _ _ (one _ _ refl) (only_first Numbered _ _ (λ k. one _ _ refl))

verdict_numbered : (v : Values) → Only Numbered (verdict_of v)
unfolding verdict_of
verdict_numbered v = only_first Numbered _ _ (λ k. one _ _ refl)

judged_numbered : (L : ℕ) (b : List ℕ) → Only Numbered (judged L b)
unfolding judged ruling
judged_numbered L b = both _ _ (one _ _ refl) (at (leb (version b) L))
  where
    at : (t : Bool) → Only Numbered (cond t (verdict_of (values_of (raw b))) none)
    at true = verdict_numbered (values_of (raw b))
    at false = λ r e. let z : ◌≡◌ {A = ℕ} 0 1 = cc in absurd (omega arith)

before_numbered : (L : ℕ) (q : Question) → Only Numbered (before_table L q)
unfolding before_table own_refusal
before_numbered L q = both _ _ (one _ _ refl) (own q)
  where
    none_found : Only Numbered none
    none_found r e = let z : ◌≡◌ {A = ℕ} 0 1 = cc in absurd (omega arith)

    own : (q : Question) → Only Numbered (own_refusal q)
    own (Field k) = one _ _ refl
    own (SelectionBit n) = one _ _ refl
    own (UnicodeBit n) = one _ _ refl
    own (CodePageBit n) = one _ _ refl
    own Rights = none_found
    own StylePosition = none_found
    own OpticalSizes = none_found

-- ---- the checks

pub name_check_said : (t : List ℕ) → check_said (outcome_refusal (check_of t)) ≡ check_of t
name_check_said t = check_back (faults t) (faults_numbered t)

pub os2_check_said : (L : ℕ) (b : List ℕ) → check_said (outcome_refusal (checked L b)) ≡ checked L b
unfolding checked
os2_check_said L b = check_back _ (both _ _ (one _ _ refl) (judged_numbered L b))

-- ---- 'name' questions

pub lookup_said : (t : List ℕ) (k : Key) → let w = found_words (lookup_of t k) (looked_of t k) in (found_said w ≡ lookup_of t k) × (w.looked ≡ looked_of t k)
unfolding lookup_of found_or found_words
lookup_said t k = (found_back (looked_of t k) (faults t) _ (faults_numbered t) (at (record_with t k)), looked_back (lookup_of t k) (looked_of t k))
  where
    at : (q : Option ℕ) → let o = found_or (bare 20) q (λ i. answered (text_of t i)) in found_said (found_words o (looked_of t k)) ≡ o
    at none = refl
    at (some i) = refl

pub postscript_said : (t : List ℕ) → text_said (text_words (postscript_of t)) ≡ postscript_of t
unfolding postscript_of from_both from_strings text_words
postscript_said t = text_back (faults t) _ (faults_numbered t) (at (record_with t (key_from 1 0 0 6)) (record_with t (key_from 3 1 1033 6)))
  where
    at : (p q : Option ℕ) → text_said (text_words (from_both t p q)) ≡ from_both t p q
    at none none = refl
    at (some i) none = refl
    at none (some j) = refl
    at (some i) (some j) = text_back _ _ (both _ _ (both _ _ (ill_numbered false (bytes_of t i)) (ill_numbered true (bytes_of t j))) (differ_numbered _ _)) refl

pub version_said_lem : (t : List ℕ) → version_said (version_words (version_of t)) ≡ version_of t
unfolding version_of from_records version_words
version_said_lem t = version_back (faults t) _ (faults_numbered t) (at (record_with t (key_from 3 1 1033 5)) (record_with t (key_from 1 0 0 5)))
  where
    at : (p q : Option ℕ) → version_said (version_words (from_records t p q)) ≡ from_records t p q
    at none none = refl
    at (some i) q = number_back i true (bytes_of t i)
    at none (some j) = number_back j false (bytes_of t j)

-- ---- 'OS/2' questions

-- what a question answers can be read back, where its value can, and absent and not known
module _ {W : Type 0} (words : Outcome Said → W) (refusal : W → GvRefusal) (answer : W → Said) where
  module _ (words_refused : (n : ℕ) (c : Option ℕ) → refusal (words (refused n c)) ≡ refusal_words n c) where
    module _ (of_absent : Back words refusal answer words_refused (answered absent)) (of_not_known : Back words refusal answer words_refused (answered not_known)) where
      asked : (L : ℕ) (b : List ℕ) (q : Question) → Back words refusal answer words_refused (answered (value (value_of b q))) →
          Back words refusal answer words_refused (ask L b q)
      unfolding ask given
      asked L b q h =
          back_unless words refusal answer words_refused _ _ (both _ _ (before_numbered L q) (judged_numbered L b)) (at (case_of (since q) (on_whole q) L (version b)))
        where
          at : (c : Case) → Back words refusal answer words_refused (answered (said_case c (value_of b q)))
          at Case·.NotKnown = of_not_known
          at Case·.Absent = of_absent
          at Case·.Value = h

pub number_said_lem : (L : ℕ) (b : List ℕ) (q : Question) → kind_of q ≡ of_number → number_said (number_words (ask L b q)) ≡ ask L b q
unfolding value_of number_words members_of outcome_refusal
number_said_lem L b q k = asked number_words (λ w. w.refusal) (λ w. said_by w.kind (integer w.value)) (λ n c. refl) refl refl L b q (of_value q k)
  where
    of_value : (q : Question) → kind_of q ≡ of_number → number_said (number_words (answered (value (value_of b q)))) ≡ answered (value (value_of b q))
    of_value (Field n) k = refl
    of_value (SelectionBit n) k = refl
    of_value (UnicodeBit n) k = refl
    of_value (CodePageBit n) k = refl
    of_value Rights k = let z : ◌≡◌ {A = ℕ} 0 1 = cc in absurd (omega arith)
    of_value StylePosition k = let z : ◌≡◌ {A = ℕ} 0 1 = cc in absurd (omega arith)
    of_value OpticalSizes k = let z : ◌≡◌ {A = ℕ} 0 1 = cc in absurd (omega arith)

pub rights_said_lem : (L : ℕ) (b : List ℕ) → rights_said (rights_words (ask L b Rights)) ≡ ask L b Rights
unfolding value_of rights_words members_of outcome_refusal
rights_said_lem L b = asked rights_words (λ w. w.refusal) (λ w. said_by w.kind (rights w.rights)) (λ n c. refl) refl refl L b Rights refl

pub style_said_lem : (L : ℕ) (b : List ℕ) → style_said (style_words (ask L b StylePosition)) ≡ ask L b StylePosition
unfolding value_of style_words members_of outcome_refusal
style_said_lem L b = asked style_words (λ w. w.refusal) (λ w. said_by w.kind (position w.weight w.width)) (λ n c. refl) refl refl L b StylePosition refl

pub optical_said_lem : (L : ℕ) (b : List ℕ) → optical_said (optical_words (ask L b OpticalSizes)) ≡ ask L b OpticalSizes
unfolding value_of optical_words members_of outcome_refusal
optical_said_lem L b = asked optical_words (λ w. w.refusal) (λ w. said_by w.kind (sizes (sizes_in w))) (λ n c. refl) refl refl L b OpticalSizes (sizes_back _)

-- ---- the writers

pub write_said : (xs : List ℤ) (r : ℕ) → written_said (written_words (write xs r)) ≡ write xs r
unfolding write unwritten
write_said xs r =
    written_back _ _ (both _ _ (one _ _ refl) (both _ _ (one _ _ refl) (both _ _ (only_first Numbered _ _ (λ k. one _ _ refl)) (verdict_numbered _))))

pub rewrite_said : (b : List ℕ) (r : ℕ) → written_said (written_words (rewritten b r)) ≡ rewritten b r
unfolding rewritten unrewritten
rewrite_said b r = written_back _ _ (both _ _ (judged_numbered _ b) (both _ _ (one _ _ refl) (one _ _ refl)))

entry_numbered : (es : List Entry) (p i : ℕ) → Only Numbered (naming.entry_fault es p i)
unfolding naming.entry_fault
entry_numbered es p i = both _ _ (one _ _ refl) (both _ _ (one _ _ refl) (both _ _ (one _ _ refl) (both _ _ (one _ _ refl) (one _ _ refl))))

pub name_write_said : (es : List Entry) (p r : ℕ) → written_said (written_words (naming.write_of es p r)) ≡ naming.write_of es p r
unfolding naming.write_of naming.unwritten
name_write_said es p r = written_back _ _ (both _ _ (one _ _ refl) (both _ _ (only_first Numbered _ _ (entry_numbered es p)) (one _ _ refl)))

-- ---- two tables compared

blame_numbered : (call left right : Option Refusal) (differences numbers : ℕ) → Only Numbered call → Only Numbered left → Only Numbered right →
    Only (λ b. Numbered b.refusal) (blame call left right differences numbers)
unfolding blame of
blame_numbered call left right differences numbers p q r =
    only_then _ _ _ (side Neither call p) (only_then _ _ _ (side Left left q) (only_then _ _ _ (side Right right r) (only_when _ _ _ refl)))
  where
    side : (s : Side) (o : Option Refusal) → Only Numbered o → Only (λ b. Numbered b.refusal) (of s o)
    side s none h b e = let z : ◌≡◌ {A = ℕ} 0 1 = cc in absurd (omega arith)
    side s (some x) h b e = let z : on s x ≡ b = cc in subst (λ y. Numbered y.refusal) z (h x refl)

pub name_compare_said : (left right : List ℕ) (numbers : ℕ) → compared_said (compared_words (names.compared_of left right numbers)) ≡ names.compared_of left right numbers
unfolding names.compared_of names.blame_of
name_compare_said left right numbers =
    compared_back _ _ (blame_numbered none (faults left) (faults right) _ numbers (λ r e. let z : ◌≡◌ {A = ℕ} 0 1 = cc in absurd (omega arith)) (faults_numbered left) (faults_numbered right))

pub os2_compare_said : (L : ℕ) (left right : List ℕ) (numbers : ℕ) → compared_said (compared_words (fields.compared_of L left right numbers)) ≡ fields.compared_of L left right numbers
unfolding fields.compared_of fields.blame_of fields.level_refusal
os2_compare_said L left right numbers =
    compared_back _ _ (blame_numbered (when _ _) (judged L left) (judged L right) _ numbers (one _ _ refl) (judged_numbered L left) (judged_numbered L right))

-- ---- the chooser

none_numbered : Only Numbered none
none_numbered r e = let z : ◌≡◌ {A = ℕ} 0 1 = cc in absurd (omega arith)

refusal_unless : {A : Type 0} (r : Option Refusal) (o : Outcome A) → Only Numbered r → Only Numbered (refusal_in o) → Only Numbered (refusal_in (unless r o))
unfolding unless
refusal_unless none o p q = q
refusal_unless (some x) o p q = p

lookup_numbered : (t : List ℕ) (k : Key) → Only Numbered (refusal_in (lookup_of t k))
unfolding lookup_of found_or when
lookup_numbered t k = refusal_unless (faults t) _ (faults_numbered t) (at (record_with t k))
  where
    at : (o : Option ℕ) → Only Numbered (refusal_in (found_or (bare 20) o (λ i. answered (text_of t i))))
    at none = one true (bare 20) refl
    at (some i) = none_numbered

family_numbered : (n : List ℕ) → Only Numbered (refusal_in (family_of n))
unfolding family_of or_else
family_numbered n = at (lookup_of n (family_key 16)) (lookup_numbered n (family_key 16))
  where
    by : (k : ℕ) (c : Option ℕ) → Only Numbered (some (record { number = k; carried = c })) → (t : Bool) → Only Numbered (refusal_in (cond t (lookup_of n (family_key 1)) (refused k c)))
    by k c p true = lookup_numbered n (family_key 1)
    by k c p false = p

    at : (o : Outcome Text) → Only Numbered (refusal_in o) → Only Numbered (refusal_in (or_else o (lookup_of n (family_key 1))))
    at (answered x) p = none_numbered
    at (refused k c) p = by k c p (eqb k 20)

face_numbered : (L : ℕ) (b n : List ℕ) → Only Numbered (refusal_in (face_in L b n))
unfolding face_in os2_fault named ask
face_numbered L b n =
    refusal_unless _ _ (both _ _ (refusal_unless _ _ (both _ _ (before_numbered L (Field 0)) (judged_numbered L b)) none_numbered) (one _ _ refl)) (at (family_of n) (family_numbered n))
  where
    at : (o : Outcome Text) → Only Numbered (refusal_in o) → Only Numbered (refusal_in (named L b n o))
    at (refused k c) p = p
    at (answered x) p = refusal_unless _ _ (one _ _ refl) none_numbered

done_back : (o : Outcome Face) → Only Numbered (refusal_in o) → check_said (outcome_refusal o) ≡ done_of o
unfolding done_of outcome_refusal unless
done_back (answered f) p = refl
done_back (refused k c) p = check_back (some (record { number = k; carried = c })) p

-- what a load says, but for the face
pub load_said : (m : Slots) (i L : ℕ) (b n : List ℕ) → check_said (outcome_refusal (load_of m i L b n)) ≡ done_of (load_of m i L b n)
unfolding load_of before_tables
load_said m i L b n = done_back (load_of m i L b n) (refusal_unless _ _ (both _ _ (one _ _ refl) (both _ _ (one _ _ refl) (one _ _ refl))) (face_numbered L b n))

pub unload_said : (m : Slots) (i : ℕ) → check_said (outcome_refusal (unload_of m i)) ≡ unload_of m i
unfolding unload_of emptying
unload_said m i = check_back _ (both _ _ (one _ _ refl) (one _ _ refl))

pub request_said : (m : Slots) (family : List ℕ) (w : Want) → chosen_said (chosen_words (request_of m family w)) ≡ request_of m family w
request_said = chosen_back

-- What two tables give is what document 02, Ask 7, settles, and nothing else is.
-- Assumes nothing.
use Prim.Native.Nat.{ℕ, zero, suc, ◌+◌, ◌<◌, ◌≤◌}
use mathlib.Core.Path.{◌≡◌, refl, sym, ap, ◌∙◌, subst}
use mathlib.Core.Logic.Iff
use mathlib.Core.Logic.{◌⊎◌, ◌↔◌}
use mathlib.Core.Bool.{Bool, true, false}
use mathlib.Core.Option.{Option, none, some}
use mathlib.Core.List.{List}
use native.Mathlib.Decide.{dec_lt}
use native.Mathlib.Omega.{arith}
use borrow.Author.Tests.{ne_eqb}
use lib.Dec.{ltb, eqb}
use lib.ListN.{length, length-drop}
use lib.Seq.{length-take-le}
use Rattle.bigendian.specs.Numbers.{Bytes}
use Rattle.outcomes.specs.Firsts.{when, ◌then◌}
use Rattle.outcomes.specs.Outcomes.{Refusal, bare, Outcome, refused, answered, unless, refusing}
use Rattle.outcomes.proofs.Tests as tests
use Rattle.choice.specs.Faces.{Face}
use Rattle.level.specs.Levels.{newest}
use Rattle.os2_rules.specs.Bits.{bit}
use Rattle.os2_rules.proofs.Exactly.{bit_small}
use Rattle.os2_fields.specs.Fields.{raw, version}
use Rattle.os2_acceptance.specs.Acceptance.{checked}
use Rattle.os2_acceptance.specs.Settled.{Accepted, CheckSettled, check_above, check_short, check_broken, check_accepted}
use Rattle.os2_acceptance.proofs.Accepting.{check_settles}
use Rattle.os2_questions.specs.declared.Question.TheVariants.{Field, SelectionBit}
use Rattle.os2_answers.specs.Asking.{ask}
use Rattle.os2_answers.specs.Settled.{level_above, too_short, rule_broken}
use Rattle.os2_answers.proofs.Settling.{settled_is}
use Rattle.name_layout.specs.Layout.{bytes_of}
use Rattle.name_layout.specs.Keys.{Key}
use Rattle.name.specs.Acceptable.{Acceptable}
use Rattle.name.specs.Acceptance.{faults}
use Rattle.name.specs.Refusing.{Refused}
use Rattle.name.proofs.Acceptances.{not_tables}
use Rattle.name.proofs.Theorems.{acceptable}
use Rattle.name.proofs.Refusings.{refused_exactly}
use Rattle.name_search.specs.declared.Text.{Text}
use Rattle.name_search.specs.Searches.{HasKey, HasBytes, record_with, text_of}
use Rattle.name_search.proofs.Finds.{find_has, find_none, text_is}
use Rattle.name_lookup.specs.Answers.{lookup_of}
use Rattle.name_lookup.proofs.Theorems.{lookup_right, found_exactly_when, missing_exactly_when, gives_its_bytes}
use Rattle.face.specs.Reading.{number_in, newer, os2_fault, face_of, family_key, or_else, family_of, bytes_at, unfit, named, face_in}
use Rattle.face.specs.Settled.{Known, Lacks, Family, of_16, of_1, bit_of, Style, FacesSettled}
use Rattle.face.specs.Settled.{FaceSettled, os2_refused, newer_table, name_refused, no_family, family_unfit, is_face}
use Rattle.face.proofs.Answers.{version_came, version_answer, weight_answer, width_answer, slope_answer, version_says, weight_says, width_says, slope_says}

-- ---- 'OS/2': the refusal, then 52

module _ (L : ℕ) (b : List ℕ) where
  refused_is : (o : Outcome (Unit {0})) (k : ℕ) (c : Option ℕ) → o ≡ refused k c → CheckSettled L b o → ask L b (Field 0) ≡ refused k c
  refused_is o k c e (check_above h) = settled_is L b (Field 0) _ (level_above h) ∙ cc
  refused_is o k c e (check_short h s) = settled_is L b (Field 0) _ (too_short h version_came s) ∙ cc
  refused_is o k c e (check_broken h s r) = settled_is L b (Field 0) _ (rule_broken h version_came s r) ∙ cc
  refused_is o k c e (check_accepted h a) = let z : ◌≡◌ {A = ℕ} 0 1 = cc in absurd (omega arith)

  fault_refused : (k : ℕ) (c : Option ℕ) → CheckSettled L b (refused k c) → os2_fault L b ≡ some (record { number = k; carried = c })
  unfolding os2_fault ◌then◌
  fault_refused k c s = rw (refused_is _ k c refl s)

  module _ (l : L ≤ newest) (a : Accepted L b) where
    pub newer_exactly : (newer L b ≡ true) ↔ (L < version b)
    unfolding newer
    newer_exactly = rw (version_answer L b l a (version_says b)) (tests.below L (version b))

    fault_newer : L < version b → os2_fault L b ≡ some (bare 52)
    unfolding os2_fault ◌then◌ when
    fault_newer h = simp (version_answer L b l a (version_says b), newer_exactly.1 h)

    fault_none : version b ≤ L → os2_fault L b ≡ none
    unfolding os2_fault ◌then◌ when
    fault_none h = simp (version_answer L b l a (version_says b), (tests.fails _ newer_exactly).1 (λ x. omega arith))

-- ---- 'name': the refusal, then 20

-- the three ways of a lookup
data KeyWay (n : List ℕ) (k : Key) : Outcome Text → Type 0 where
  key_refused : {r : Refusal} → Refused n r → KeyWay n k (refusing r)
  key_missing : Acceptable n → Lacks n k → KeyWay n k (refused 20 none)
  key_found : {x : Text} → Acceptable n → HasKey n k x.«record» → HasBytes n x → KeyWay n k (answered x)

key_way : (n : List ℕ) → Bytes n → (k : Key) → KeyWay n k (lookup_of n k)
key_way n b k = at (faults n) refl (record_with n k) refl
  where
    at : (o : Option Refusal) → faults n ≡ o → (q : Option ℕ) → record_with n k ≡ q → KeyWay n k (lookup_of n k)
    at (some r) e q d = let f = (refused_exactly n r).0 e in subst (KeyWay n k) (sym (lookup_right.refused n k r f)) (key_refused f)
    at none e none d =
        let a = (acceptable n).0 e in
        let l = (find_none n k).0 d in
        subst (KeyWay n k) (sym ((missing_exactly_when n b k).1 (a, l))) (key_missing a l)
    at none e (some i) d =
        let a = (acceptable n).0 e in
        let p = (found_exactly_when n b k (text_of n i)).1 (a, (i, find_has n k d, (text_is n i _).0 refl)) in
        let g = gives_its_bytes n b k (text_of n i) p in
        subst (KeyWay n k) (sym p) (key_found a g.0 g.1)

-- the three ways of the family
data FamilyWay (n : List ℕ) : Outcome Text → Type 0 where
  family_refused : {r : Refusal} → Refused n r → FamilyWay n (refusing r)
  family_missing : Acceptable n → Lacks n (family_key 16) → Lacks n (family_key 1) → FamilyWay n (refused 20 none)
  family_found : {x : Text} → Acceptable n → Family n (bytes_at n x) → x.start + x.len ≤ length n → FamilyWay n (answered x)

bytes_length : (n : List ℕ) (x : Text) → x.start + x.len ≤ length n → length (bytes_at n x) ≡ x.len
bytes_length n x h = length-take-le x.len _ (rw length-drop (omega arith))

family_way : (n : List ℕ) → Bytes n → FamilyWay n (family_of n)
unfolding family_of or_else
family_way n b = at (lookup_of n (family_key 16)) (lookup_of n (family_key 1)) (key_way n b (family_key 16)) (key_way n b (family_key 1))
  where
    one : (o : Outcome Text) → Lacks n (family_key 16) → KeyWay n (family_key 1) o → FamilyWay n o
    one o l (key_refused f) = family_refused f
    one o l (key_missing a m) = family_missing a l m
    one o l (key_found {x} a h y) = family_found a (subst (Family n) (sym y.2) (of_1 l h)) y.1

    at : (o p : Outcome Text) → KeyWay n (family_key 16) o → KeyWay n (family_key 1) p → FamilyWay n (or_else o p)
    at o p (key_refused {r} f) w = rw (ne_eqb r.number 20 (not_tables n 20 refl r ((refused_exactly n r).1 f))) (family_refused f)
    at o p (key_missing a l) w = one p l w
    at o p (key_found {x} a h y) w = family_found a (subst (Family n) (sym y.2) (of_16 h)) y.1

-- a text that is found lies within the table
pub family_inside : (n : List ℕ) → Bytes n → (x : Text) → family_of n ≡ answered x → x.start + x.len ≤ length n
family_inside n b x e = at (family_of n) e (family_way n b)
  where
    at : (o : Outcome Text) → o ≡ answered x → FamilyWay n o → x.start + x.len ≤ length n
    at o d (family_refused f) = let z : ◌≡◌ {A = ℕ} 0 1 = cc in absurd (omega arith)
    at o d (family_missing a l m) = let z : ◌≡◌ {A = ℕ} 0 1 = cc in absurd (omega arith)
    at o d (family_found {x = y} a f h) = let q : y ≡ x = cc in rw q at h

-- ---- both

pub unfit_exactly : (n : ℕ) → (unfit n ≡ true) ↔ ((n ≡ 0) ⊎ (64 < n))
unfolding unfit
unfit_exactly n = Iff.trans (tests.or_true (eqb n 0) (ltb 64 n)) (tests.either (tests.equal n 0) (tests.below 64 n))

pub fit_exactly : (n : ℕ) → (unfit n ≡ false) ↔ ((1 ≤ n) × (n ≤ 64))
unfolding unfit
fit_exactly n = (
  λ e.
      let p = (tests.or_false (eqb n 0) (ltb 64 n)).0 e in
      let q = (tests.unequal n 0).0 p.0 in
      (omega arith, (tests.not_below 64 n).0 p.1),
  λ p. (tests.or_false (eqb n 0) (ltb 64 n)).1 ((tests.unequal n 0).1 (λ e. omega (arith, p.0)), (tests.not_below 64 n).1 p.1),
)

-- a bit that is set is 1
bit_of_lem : (x : ℕ) → x < 2 → bit_of (eqb x 1) ≡ x
bit_of_lem zero h = refl
bit_of_lem (suc zero) h = refl
bit_of_lem (suc (suc x)) h = absurd (omega arith)

of_bit : (s : Bool) → eqb (bit_of s) 1 ≡ s
of_bit true = refl
of_bit false = refl

module _ (L : ℕ) (b n : List ℕ) where
  -- what the tables of an accepted font give
  past : Known L b → face_in L b n ≡ named L b n (family_of n)
  unfolding face_in unless
  past k = rw (fault_none L b k.level k.accepted k.not_newer)

  styled : Known L b → (text : List ℕ) → Style b (face_of L b text)
  unfolding face_of
  styled k text =
      record {
        weight = rw (weight_answer L b k.level k.accepted (weight_says b)) (weight_says b);
        width = rw (width_answer L b k.level k.accepted (width_says b)) (width_says b);
        slope = rw (slope_answer L b k.level k.accepted (slope_says b), bit_of_lem (bit 0 (raw b 31)) (bit_small 0 (raw b 31))) (slope_says b);
      }

  one_style : Known L b → (f : Face) (text : List ℕ) → text ≡ f.family → Style b f → face_of L b text ≡ f
  unfolding face_of
  one_style k f text e s =
      let a : number_in (ask L b (Field 2)) ≡ f.weight = ap number_in (weight_answer L b k.level k.accepted s.weight) in
      let c : number_in (ask L b (Field 3)) ≡ f.width = ap number_in (width_answer L b k.level k.accepted s.width) in
      let d : eqb (number_in (ask L b (SelectionBit 0))) 1 ≡ f.sloped =
      ap (λ o. eqb (number_in o) 1) (slope_answer L b k.level k.accepted s.slope) ∙ of_bit f.sloped in
      λ i. record { family = e i; weight = a i; width = c i; sloped = d i }

  settles_at : Known L b → (o : Outcome Text) → FamilyWay n o → FaceSettled L b n (named L b n o)
  unfolding named unless when face_of
  settles_at k o (family_refused f) = name_refused k f
  settles_at k o (family_missing a l m) = no_family k a l m
  settles_at k o (family_found {x} a f h) = at (unfit x.len) refl
    where
      e : length (bytes_at n x) ≡ x.len
      e = bytes_length n x h

      at : (t : Bool) → unfit x.len ≡ t → FaceSettled L b n (unless (when t (bare 51)) (answered (face_of L b (bytes_at n x))))
      at true u = family_unfit k a f ((unfit_exactly (length (bytes_at n x))).0 (rw e u))
      at false u = is_face {f = face_of L b (bytes_at n x)} k a f (λ w. (tests.fails _ (unfit_exactly x.len)).0 u (rw e at w)) (styled k (bytes_at n x))

  settles_here : Bytes n → FaceSettled L b n (face_in L b n)
  unfolding face_in unless
  settles_here y = at (checked L b) (check_settles L b)
    where
      accepted : L ≤ newest → Accepted L b → Dec (L < version b) → FaceSettled L b n (face_in L b n)
      accepted l a (yes h) = rw (fault_newer L b l a h) (newer_table l a h)
      accepted l a (no h) =
          let k : Known L b = record { level = l; accepted = a; not_newer = omega arith } in
          subst (FaceSettled L b n) (sym (past k)) (settles_at k (family_of n) (family_way n y))

      at : (o : Outcome (Unit {0})) → CheckSettled L b o → FaceSettled L b n (face_in L b n)
      at o (check_above h) = rw (fault_refused L b _ _ (check_above h)) (os2_refused (check_above h))
      at o (check_short h s) = rw (fault_refused L b _ _ (check_short h s)) (os2_refused (check_short h s))
      at o (check_broken h s r) = rw (fault_refused L b _ _ (check_broken h s r)) (os2_refused (check_broken h s r))
      at o (check_accepted l a) = accepted l a (dec_lt L (version b))

-- the family that an accepted table has is found
record FoundAs (n text : List ℕ) : Type 0 where
  at : Text
  is : family_of n ≡ answered at
  bytes : bytes_at n at ≡ text
  long : at.len ≡ length text

module _ (n : List ℕ) (y : Bytes n) (a : Acceptable n) where
  found_at : (k : Key) (i : ℕ) → HasKey n k i → lookup_of n k ≡ answered (text_of n i)
  found_at k i h = (found_exactly_when n y k (text_of n i)).1 (a, (i, h, (text_is n i _).0 refl))

  as_text : (k : Key) (i : ℕ) → HasKey n k i → family_of n ≡ answered (text_of n i) → FoundAs n (bytes_of n i)
  unfolding text_of
  as_text k i h e =
      let g = (gives_its_bytes n y k (text_of n i) (found_at k i h)).1 in
      record { at = text_of n i; is = e; bytes = g.2; long = sym (bytes_length n (text_of n i) g.1) ∙ ap length g.2 }

  family_is : (text : List ℕ) → Family n text → FoundAs n text
  unfolding family_of or_else
  family_is text (of_16 {i} h) = as_text (family_key 16) i h (rw (found_at (family_key 16) i h))
  family_is text (of_1 {i} l h) = as_text (family_key 1) i h (rw ((missing_exactly_when n y (family_key 16)).1 (a, l)) (found_at (family_key 1) i h))

  family_lacks : Lacks n (family_key 16) → Lacks n (family_key 1) → family_of n ≡ refused 20 none
  unfolding family_of or_else
  family_lacks l m = rw ((missing_exactly_when n y (family_key 16)).1 (a, l)) ((missing_exactly_when n y (family_key 1)).1 (a, m))

family_fault : (n : List ℕ) (r : Refusal) → Refused n r → family_of n ≡ refusing r
unfolding family_of or_else
family_fault n r f =
    rw (lookup_right.refused n (family_key 16) r f, ne_eqb r.number 20 (not_tables n 20 refl r ((refused_exactly n r).1 f)))

-- what is given is settled
pub face_settles : FacesSettled face_in
face_settles L b n y = settles_here L b n y

-- and nothing else is
pub face_settled_is : (L : ℕ) (b n : List ℕ) → Bytes n → (o : Outcome Face) → FaceSettled L b n o → face_in L b n ≡ o
unfolding face_in named unless when
face_settled_is L b n y o (os2_refused s) = rw (fault_refused L b _ _ s)
face_settled_is L b n y o (newer_table l a h) = rw (fault_newer L b l a h)
face_settled_is L b n y o (name_refused {r} k f) = past L b n k ∙ ap (named L b n) (family_fault n r f)
face_settled_is L b n y o (no_family k a l m) = past L b n k ∙ ap (named L b n) (family_lacks n y a l m)
face_settled_is L b n y o (family_unfit {text} k a f u) =
    let x = family_is n y a text f in
    let v : unfit x.at.len ≡ true = ap unfit x.long ∙ (unfit_exactly (length text)).1 u in
    past L b n k ∙ ap (named L b n) x.is ∙ rw v
face_settled_is L b n y o (is_face {f} k a w u s) =
    let x = family_is n y a f.family w in
    let v : unfit x.at.len ≡ false = ap unfit x.long ∙ (tests.fails _ (unfit_exactly (length f.family))).1 u in
    past L b n k ∙ ap (named L b n) x.is ∙ rw v (ap answered (one_style L b n k f _ x.bytes s))

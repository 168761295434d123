-- The definition of the version question gives what document 01's propositions say: each way to an outcome is one of them, and leads back to it.
-- Assumes nothing.
use Prim.Native.Nat.{ℕ}
use mathlib.Core.Path.{◌≡◌, refl, sym, ◌∙◌, ap, subst}
use mathlib.Core.Bool.{Bool, true, false}
use mathlib.Core.Option.{Option, none, some}
use mathlib.Core.List.{List}
use mathlib.Core.Logic.{◌↔◌}
use native.Mathlib.Omega.{arith}
use Rattle.bigendian.specs.Numbers.{Bytes}
use Rattle.outcomes.specs.Outcomes.{Refusal, Outcome, refused, answered, refusing}
use Rattle.outcomes.proofs.Laws.{passed_on, not_refused}
use Rattle.name_layout.specs.Layout.{bytes_of}
use Rattle.name_layout.specs.Keys.{key_from}
use Rattle.name.specs.Acceptance.{faults}
use Rattle.name.specs.Acceptable.{Acceptable}
use Rattle.name.proofs.Acceptances.{not_tables}
use Rattle.name.proofs.Theorems.{acceptable}
use Rattle.name.proofs.Refusings.{refused_exactly}
use Rattle.name_search.specs.Searches.{record_with}
use Rattle.name_search.proofs.Finds.{find_has, find_at, find_none}
use Rattle.version_text.specs.Versions.{Figures, version_in}
use Rattle.version_text.proofs.Rules.{refused_25, version_right as text_right}
use Rattle.name_answers.specs.Versions.{Reading, read_from, from_records, version_of}
use Rattle.name_answers.specs.ExactNames.{None}
use Rattle.name_answers.specs.ExactVersions.{Wide, Narrow, Chosen, HasNumber, NoVersion, LacksNumber, VersionRight}

-- the two records
abbrev wide_record : List ℕ → Option ℕ
wide_record t = record_with t (key_from 3 1 1033 5)

abbrev narrow_record : List ℕ → Option ℕ
narrow_record t = record_with t (key_from 1 0 0 5)

-- ---- the definition at its cases

module _ (t : List ℕ) where
  pub version_refused : {r : Refusal} → faults t ≡ some r → version_of t ≡ refusing r
  unfolding version_of
  version_refused a = passed_on _ a

  pub version_from : faults t ≡ none → {p q : Option ℕ} → wide_record t ≡ p → narrow_record t ≡ q → version_of t ≡ from_records t p q
  unfolding version_of
  version_from a d e = not_refused _ a ∙ λ k. from_records t (d k) (e k)

-- ---- what is read in record i's string is what the string has, with i

-- the answer, and zeros for a refusal
reading : Outcome Reading → Reading
reading (answered v) = v
reading (refused n c) = record { major = 0; minor = 0; «record» = 0 }

read_answered : (i : ℕ) (o : Outcome Figures) (a b n : ℕ) →
    (read_from i o ≡ answered (record { major = a; minor = b; «record» = n })) ↔ ((o ≡ answered (record { major = a; minor = b })) × (i ≡ n))
unfolding read_from reading
read_answered i (answered f) a b n = (
  (λ e.
      let v : ◌≡◌ {A = Reading} (record { major = f.major; minor = f.minor; «record» = i }) (record { major = a; minor = b; «record» = n }) = ap reading e in
      (λ p. answered (record { major = (v p).major; minor = (v p).minor }), λ p. (v p).«record»)),
  λ (e, q).
      let v : f ≡ record { major = a; minor = b } = cc in
      λ p. answered (record { major = (v p).major; minor = (v p).minor; «record» = q p }),
)
read_answered i (refused m c) a b n = (
  λ e. let z : ◌≡◌ {A = ℕ} 0 1 = cc in absurd (omega arith),
  λ (e, q). let z : ◌≡◌ {A = ℕ} 0 1 = cc in absurd (omega arith),
)

read_refused : (i : ℕ) (o : Outcome Figures) (n : ℕ) (c : Option ℕ) → (read_from i o ≡ refused n c) ↔ (o ≡ refused n c)
unfolding read_from
read_refused i (answered f) n c = (
  λ e. let z : ◌≡◌ {A = ℕ} 0 1 = cc in absurd (omega arith),
  λ e. let z : ◌≡◌ {A = ℕ} 0 1 = cc in absurd (omega arith),
)
read_refused i (refused m d) n c = (λ e. cc, λ e. cc)

-- ---- the ways to an outcome

data Way (t : List ℕ) : Outcome Reading → Type 0 where
  refusal : {r : Refusal} → faults t ≡ some r → Way t (refusing r)
  neither_there : Acceptable t → None (Wide t) → None (Narrow t) → Way t (refused 20 none)
  string : (wide : Bool) (i : ℕ) → Acceptable t → Chosen t wide i → Way t (read_from i (version_in wide (bytes_of t i)))

module _ (t : List ℕ) (b : Bytes t) where
  -- the outcome is one of them
  way : Way t (version_of t)
  unfolding from_records
  way = checked (faults t) refl
    where
      records : faults t ≡ none → (p q : Option ℕ) → wide_record t ≡ p → narrow_record t ≡ q → Way t (version_of t)
      records a (some i) q d e = rw (version_from t a d e) (string true i ((acceptable t).0 a) (find_has t _ d))
      records a none (some i) d e = rw (version_from t a d e) (string false i ((acceptable t).0 a) ((find_none t _).0 d, find_has t _ e))
      records a none none d e = rw (version_from t a d e) (neither_there ((acceptable t).0 a) ((find_none t _).0 d) ((find_none t _).0 e))

      checked : (o : Option Refusal) → faults t ≡ o → Way t (version_of t)
      checked (some r) a = rw (version_refused t a) (refusal a)
      checked none a = records a _ _ refl refl

  -- and each leads back to it
  settled : {o : Outcome Reading} → Way t o → version_of t ≡ o
  unfolding from_records
  settled (refusal a) = version_refused t a
  settled (neither_there x f s) = version_from t ((acceptable t).1 x) ((find_none t _).1 f) ((find_none t _).1 s)
  settled (string true i x h) = let a = (acceptable t).1 x in version_from t a (find_at t _ b a h) refl
  settled (string false i x h) = let a = (acceptable t).1 x in version_from t a ((find_none t _).1 h.0) (find_at t _ b a h.1)

-- ---- what an outcome says of a table

module _ (t : List ℕ) where
  number_from : {o : Outcome Reading} {x y n : ℕ} → Way t o → o ≡ answered (record { major = x; minor = y; «record» = n }) → HasNumber t x y n
  number_from (refusal a) e = let z : ◌≡◌ {A = ℕ} 0 1 = cc in absurd (omega arith)
  number_from (neither_there a f s) e = let z : ◌≡◌ {A = ℕ} 0 1 = cc in absurd (omega arith)
  number_from {n = n} (string wide i a h) e =
      let p = (read_answered i _ _ _ n).0 e in
      subst (HasNumber t _ _) p.1 (record { accepted = a; wide = wide; chosen = h; holds = (text_right.found wide (bytes_of t i) _ _).0 p.0 })

  neither_from : {o : Outcome Reading} → Way t o → o ≡ refused 20 none → NoVersion t
  neither_from (refusal {r} a) e = let z : r.number ≡ 20 = cc in absurd (not_tables t 20 refl r a z)
  neither_from (neither_there a f s) e = (a, f, s)
  neither_from (string wide i a h) e =
      let s = (read_refused i _ _ _).0 e in
      let r = refused_25 wide (bytes_of t i) s in
      let z : ◌≡◌ {A = ℕ} 20 25 = cc in absurd (omega arith)

  lacks_from : {o : Outcome Reading} → Way t o → o ≡ refused 25 none → LacksNumber t
  lacks_from (refusal {r} a) e = let z : r.number ≡ 25 = cc in absurd (not_tables t 25 refl r a z)
  lacks_from (neither_there a f s) e = let z : ◌≡◌ {A = ℕ} 20 25 = cc in absurd (omega arith)
  lacks_from (string wide i a h) e =
      (i, record { accepted = a; wide = wide; chosen = h; holds = (text_right.missing wide (bytes_of t i)).0 ((read_refused i _ _ _).0 e) })

pub version_right : VersionRight version_of
version_right =
    record {
      passes_on = λ t r a. version_refused t ((refused_exactly t r).1 a);
      number = λ t b x y i. (
        number_from t (way t b),
        λ w. settled t b (string w.wide i w.accepted w.chosen) ∙ (read_answered i _ x y i).1 ((text_right.found w.wide _ x y).1 w.holds, refl),
      );
      neither = λ t b. (neither_from t (way t b), λ w. settled t b (neither_there w.0 w.1 w.2));
      lacks = λ t b. (
        lacks_from t (way t b),
        λ (i, w). settled t b (string w.wide i w.accepted w.chosen) ∙ (read_refused i _ 25 none).1 ((text_right.missing w.wide _).1 w.holds),
      );
    }

-- the propositions settle every answer: whatever reader meets them answers as the definition does
pub version_only : (read : List ℕ → Outcome Reading) → VersionRight read → (t : List ℕ) → Bytes t → read t ≡ version_of t
version_only read right t b = by (way t b)
  where
    by : {o : Outcome Reading} → Way t o → read t ≡ o
    by (refusal {r} a) = right.passes_on t r ((refused_exactly t r).0 a)
    by (neither_there x f s) = (right.neither t b).1 (x, f, s)
    by (string wide i x h) = text (version_in wide (bytes_of t i)) refl
      where
        text : (o : Outcome Figures) → version_in wide (bytes_of t i) ≡ o → read t ≡ read_from i (version_in wide (bytes_of t i))
        text (answered f) e =
            (right.number t b f.major f.minor i).1 (record { accepted = x; wide = wide; chosen = h; holds = (text_right.found wide _ _ _).0 e })
            ∙ sym ((read_answered i _ _ _ i).1 (e, refl))
        text (refused n c) e =
            let r = refused_25 wide (bytes_of t i) e in
            (right.lacks t b).1 (i, record { accepted = x; wide = wide; chosen = h; holds = (text_right.missing wide _).0 r })
            ∙ sym ((read_refused i _ _ _).1 r)

-- What is reported are the steps and nothing else; and any report that is right keeps within the budget, since each look leaves at most half and no accepted table has
-- more than 5,460 records.
-- Assumes nothing.
use Prim.Native.Nat.{ℕ, ◌*◌, ◌^◌, ◌≤◌, ◌<◌}
use mathlib.Core.Path.{◌≡◌, refl, sym, ◌∙◌, subst}
use mathlib.Core.Logic.{◌⊎◌, inl, inr}
use mathlib.Core.Option.{Option, none, some}
use mathlib.Core.List.{List}
use native.Mathlib.Decide.{dec_lt}
use native.Mathlib.Omega.{arith}
use lib.Pow.{pow_mono}
use Rattle.outcomes.specs.Outcomes.{Refusal}
use Rattle.name_layout.specs.Layout.{count}
use Rattle.name_layout.specs.Keys.{Key, key_of}
use Rattle.name.specs.Acceptable.{Acceptable}
use Rattle.name.specs.Acceptance.{faults}
use Rattle.name.proofs.Theorems.{acceptable, accepted_exactly_when, at_most_5460}
use Rattle.name.proofs.Refusings.{refused_exactly}
use Rattle.name_search.specs.Steps.{Steps}
use Rattle.name_search.specs.Searches.{looks_for}
use Rattle.name_search.proofs.Counts.{looks_exactly, among, bounded, empty}
use Rattle.name_lookup.specs.Answers.{reported, looked_of}
use Rattle.name_lookup.specs.Reports.{ReportRight, Budgeted}

module _ (t : List ℕ) (k : Key) where
  pub looked_refused : {r : Refusal} → faults t ≡ some r → looked_of t k ≡ 0
  unfolding looked_of reported
  looked_refused e = rw e refl

  pub looked_accepted : faults t ≡ none → looked_of t k ≡ looks_for t k
  unfolding looked_of reported
  looked_accepted e = rw e refl

pub report_right : ReportRight looked_of
unfolding looks_for
report_right = record {
  steps = λ t k a. (looks_exactly (key_of t) k (count t) _).0 (looked_accepted t k ((acceptable t).1 a));
  refused = λ t k r f. looked_refused t k ((refused_exactly t r).1 f);
}

-- of at most 5,460 records
at_most_13 : (n count : ℕ) → count ≤ 5460 → (n ≡ 0) ⊎ (2 ^ n ≤ 2 * count) → n ≤ 13
at_most_13 n count l (inl e) = omega arith
at_most_13 n count l (inr b) = by (dec_lt 13 n)
  where
    by : Dec (13 < n) → n ≤ 13
    by (yes g) = absurd (omega (arith, pow_mono {i = 14} {j = n} g))
    by (no g) = omega arith

module _ (f : List ℕ → Key → ℕ) (h : ReportRight f) where
  -- that leaves no other report
  pub report_only : (t : List ℕ) (k : Key) → f t k ≡ looked_of t k
  report_only t k = at (faults t) refl
    where
      at : (o : Option Refusal) → faults t ≡ o → f t k ≡ looked_of t k
      at (some r) e = let p = (refused_exactly t r).0 e in h.refused t k r p ∙ sym (report_right.refused t k r p)
      at none e =
          let a = (acceptable t).0 e in
          (looks_exactly (key_of t) k (count t) _).1 (h.steps t k a) ∙ sym ((looks_exactly (key_of t) k (count t) _).1 (report_right.steps t k a))

  -- of a table that is refused it is 0, and of any other what holds of the steps
  by_table : (P : ℕ → Type 0) (t : List ℕ) (k : Key) → P 0 → (Acceptable t → Steps (key_of t) k 0 (count t) (f t k) → P (f t k)) → P (f t k)
  by_table P t k z p = at (faults t) refl
    where
      at : (o : Option Refusal) → faults t ≡ o → P (f t k)
      at (some r) e = subst P (sym (h.refused t k r ((refused_exactly t r).0 e))) z
      at none e = let a = (acceptable t).0 e in p a (h.steps t k a)

  pub within_budget : Budgeted f
  within_budget = record {
    empty = λ t k e. by_table (λ n. n ≡ 0) t k refl (λ a s. empty (key_of t) k (rw e at s));
    bounded = λ t k l. by_table (λ n. 2 ^ n ≤ 2 * count t) t k (omega arith) (λ a s. bounded (key_of t) k s l);
    most = λ t b k. by_table (λ n. n ≤ 13) t k (omega arith) (λ a s. at_most_13 (f t k) (count t) (at_most_5460 t b ((accepted_exactly_when t b).1 a)) (among (key_of t) k s));
  }

-- "found by its four numbers exactly when a record has them": what a search in an accepted table finds is the one record that has the key.
-- Assumes nothing.
use Prim.Native.Nat.{ℕ}
use mathlib.Core.Path.{◌≡◌, refl, sym, ap, ◌∙◌, subst}
use mathlib.Core.Option.{Option, none, some}
use mathlib.Core.List.{List}
use native.Mathlib.Omega.{arith}
use Rattle.bigendian.specs.Numbers.{Bytes}
use Rattle.outcomes.specs.Outcomes.{Refusal, bare, Outcome, refused, answered, unless, found_or}
use Rattle.outcomes.proofs.Laws.{unless_answered, found, not_found}
use Rattle.name_layout.specs.Keys.{Key}
use Rattle.name.proofs.Acceptances.{own}
use Rattle.name.specs.Acceptable.{Acceptable}
use Rattle.name.specs.Acceptance.{faults}
use Rattle.name.proofs.Theorems.{acceptable}
use Rattle.name.proofs.Refusings.{refused_exactly}
use Rattle.name_search.specs.declared.Text.{Text}
use Rattle.name_search.specs.Searches.{HasKey, record_with, StringOf, text_of}
use Rattle.name_search.proofs.Finds.{find_has, find_at, find_none, text_is, has_bytes}
use Rattle.name_lookup.specs.Answers.{lookup_of}
use Rattle.name_lookup.specs.Exactly.{FoundExactlyWhen, MissingExactlyWhen, LookupRight, GivesItsBytes}

pub found_exactly_when : FoundExactlyWhen lookup_of
unfolding lookup_of found_or
found_exactly_when t b k x = (
  λ h. let p = (unless_answered _ _ x).0 h in ((acceptable t).0 p.0, search_found (record_with t k) refl p.1),
  λ p.
      let a = (acceptable t).1 p.0 in
      let y = p.1 in
      (unless_answered _ _ x).1 (a, found _ _ (find_at t k b a y.1) ∙ ap answered (sym ((text_is t y.0 x).1 y.2))),
)
  where
    search_found : (o : Option ℕ) → record_with t k ≡ o → found_or (bare 20) o (λ i. answered (text_of t i)) ≡ answered x
        → (i : ℕ) × HasKey t k i × StringOf t i x
    search_found none f e = let z : ◌≡◌ {A = ℕ} 0 1 = cc in absurd (omega arith)
    search_found (some i) f e = (i, find_has t k f, (text_is t i x).0 cc)

pub missing_exactly_when : MissingExactlyWhen lookup_of
unfolding lookup_of found_or
missing_exactly_when t b k = (
  λ h. let p = (own t _ 20 refl).0 h in ((acceptable t).0 p.0, (find_none t k).0 (search_none (record_with t k) refl p.1)),
  λ p. (own t _ 20 refl).1 ((acceptable t).1 p.0, not_found _ _ ((find_none t k).1 p.1)),
)
  where
    search_none : (o : Option ℕ) → record_with t k ≡ o → found_or (bare 20) o (λ i. answered (text_of t i)) ≡ refused 20 none → record_with t k ≡ none
    search_none none f e = f
    search_none (some i) f e = let z : ◌≡◌ {A = ℕ} 0 1 = cc in absurd (omega arith)

pub lookup_right : LookupRight lookup_of
unfolding lookup_of unless
lookup_right =
    record {
      refused = λ t k r f. rw ((refused_exactly t r).1 f);
      found = found_exactly_when;
      missing = missing_exactly_when;
    }

-- that leaves no other answer
pub lookup_only : (f : List ℕ → Key → Outcome Text) → LookupRight f → (t : List ℕ) → Bytes t → (k : Key) → f t k ≡ lookup_of t k
lookup_only f h t b k = at (faults t) refl (record_with t k) refl
  where
    at : (o : Option Refusal) → faults t ≡ o → (q : Option ℕ) → record_with t k ≡ q → f t k ≡ lookup_of t k
    at (some r) e q d = let p = (refused_exactly t r).0 e in h.refused t k r p ∙ sym (lookup_right.refused t k r p)
    at none e (some i) d =
        let p : Acceptable t × ((j : ℕ) × HasKey t k j × StringOf t j (text_of t i)) = ((acceptable t).0 e, (i, find_has t k d, (text_is t i _).0 refl)) in
        (h.found t b k (text_of t i)).1 p ∙ sym ((found_exactly_when t b k (text_of t i)).1 p)
    at none e none d =
        let p : Acceptable t × ((i : ℕ) → HasKey t k i → ⊥) = ((acceptable t).0 e, (find_none t k).0 d) in
        (h.missing t b k).1 p ∙ sym ((missing_exactly_when t b k).1 p)

pub gives_its_bytes : GivesItsBytes lookup_of
gives_its_bytes t b k x h =
    let p = (found_exactly_when t b k x).0 h in
    let y = p.1 in
    (subst (HasKey t k) (sym y.2.number) y.1, has_bytes t _ ((text_is t _ x).1 y.2) p.0 y.1.inside)

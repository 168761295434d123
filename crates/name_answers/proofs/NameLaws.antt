-- The definition of the PostScript question gives what document 01's propositions say: each way to an outcome is one of them, and leads back to it.
-- Assumes nothing.
use Prim.Native.Nat.{ℕ}
use mathlib.Core.Path.{◌≡◌, refl, sym, ◌∙◌, ap, subst}
use mathlib.Core.Bool.{Bool, true, false}
use mathlib.Core.Option.{Option, none, some}
use mathlib.Core.List.{List}
use mathlib.Core.Logic.{◌↔◌, inl, inr, ⊎_elim}
use native.Mathlib.Omega.{arith}
use borrow.Author.Tests.{ne_eqb}
use lib.Dec.{eqb}
use Rattle.bigendian.specs.Numbers.{Bytes}
use Rattle.outcomes.specs.Outcomes.{Refusal, Outcome, refused, answered, refusing}
use Rattle.outcomes.proofs.Laws.{passed_on, not_refused, first_here, first_past, only_one}
use Rattle.name_layout.specs.Layout.{bytes_of}
use Rattle.name_layout.specs.Keys.{key_from}
use Rattle.characters.specs.Strings.{characters}
use Rattle.name.specs.Acceptance.{faults}
use Rattle.name.specs.Acceptable.{Acceptable}
use Rattle.name.proofs.Acceptances.{tables, not_tables}
use Rattle.name.proofs.Theorems.{acceptable}
use Rattle.name.proofs.Refusings.{refused_exactly}
use Rattle.name_search.specs.declared.Text.{Text}
use Rattle.name_search.specs.Searches.{record_with, text_of}
use Rattle.name_search.proofs.Finds.{find_has, find_at, find_none, text_is, has_bytes}
use Rattle.name_answers.specs.Names.{either_ill, unlike, from_strings, from_both, postscript_of}
use Rattle.name_answers.specs.ExactNames.{First, Second, WithBoth, Formed, Same, Named, Neither, ExactlyOne, NotFormed, Unlike, PostscriptRight, GivesItsBytes}
use Rattle.name_answers.proofs.FormLaws.{both_formed, either_23, same_characters, differ_24}

-- the two records
abbrev first : List ℕ → Option ℕ
first t = record_with t (key_from 1 0 0 6)

abbrev second : List ℕ → Option ℕ
second t = record_with t (key_from 3 1 1033 6)

-- ---- the definition at its cases

module _ (t : List ℕ) where
  pub name_refused : {r : Refusal} → faults t ≡ some r → postscript_of t ≡ refusing r
  unfolding postscript_of
  name_refused a = passed_on _ a

  pub name_from : faults t ≡ none → {p q : Option ℕ} → first t ≡ p → second t ≡ q → postscript_of t ≡ from_both t p q
  unfolding postscript_of
  name_from a d e = not_refused _ a ∙ λ k. from_both t (d k) (e k)

module _ (name : Text) (x y : List ℕ) where
  pub strings_ill : (either_ill x y ≡ none → ⊥) → from_strings name x y ≡ refused 23 none
  unfolding from_strings
  strings_ill h = passed_on _ (first_here _ (only_one _ (either_23 x y) h))

  module _ (e : either_ill x y ≡ none) where
    pub strings_unlike : (unlike x y ≡ none → ⊥) → from_strings name x y ≡ refused 24 none
    unfolding from_strings
    strings_unlike h = passed_on _ (first_past _ e ∙ only_one _ (differ_24 _ _) h)

    pub strings_alike : unlike x y ≡ none → from_strings name x y ≡ answered name
    unfolding from_strings
    strings_alike d = not_refused _ (first_past _ e ∙ d)

-- ---- the ways to an outcome

data Way (t : List ℕ) : Outcome Text → Type 0 where
  refusal : {r : Refusal} → faults t ≡ some r → Way t (refusing r)
  name : {x : Text} → Named t x → Way t (answered x)
  none_there : Neither t → Way t (refused 21 none)
  one_there : ExactlyOne t → Way t (refused 22 none)
  ill_formed_lem : NotFormed t → Way t (refused 23 none)
  different : Unlike t → Way t (refused 24 none)

-- the tests of form and of difference on two records
module _ (t : List ℕ) (i j : ℕ) where
  formed : (either_ill (bytes_of t i) (bytes_of t j) ≡ none) ↔ Formed t i j
  formed = both_formed (bytes_of t i) (bytes_of t j)

  same : (unlike (bytes_of t i) (bytes_of t j) ≡ none) ↔ Same t i j
  same = same_characters (characters false (bytes_of t i)) (characters true (bytes_of t j))

-- what was found is not nothing
is_some : {A : Type 0} {o : Option A} {x : A} → o ≡ some x → o ≡ none → ⊥
is_some e f = let z : ◌≡◌ {A = ℕ} 0 1 = cc in omega arith

module _ (t : List ℕ) (b : Bytes t) where
  -- the outcome is one of them
  way : Way t (postscript_of t)
  unfolding from_both
  way = checked (faults t) refl
    where
      strings : (i j : ℕ) → Acceptable t → First t i → Second t j → (p q : Option Refusal)
          → either_ill (bytes_of t i) (bytes_of t j) ≡ p → unlike (bytes_of t i) (bytes_of t j) ≡ q
          → Way t (from_strings (text_of t i) (bytes_of t i) (bytes_of t j))
      strings i j a f s (some r) q d e =
          rw (strings_ill _ _ _ (is_some d))
          (ill_formed_lem (record { accepted = a; i = i; j = j; first = f; second = s; holds = λ x. is_some d ((formed t i j).1 x) }))
      strings i j a f s none (some r) d e =
          rw (strings_unlike _ _ _ d (is_some e))
          (different (record { accepted = a; i = i; j = j; first = f; second = s; holds = ((formed t i j).0 d, λ x. is_some e ((same t i j).1 x)) }))
      strings i j a f s none none d e =
          rw (strings_alike _ _ _ d e)
          (name (record { accepted = a; i = i; j = j; first = f; second = s; holds = ((formed t i j).0 d, (same t i j).0 e, (text_is t i _).0 refl) }))

      records : faults t ≡ none → (p q : Option ℕ) → first t ≡ p → second t ≡ q → Way t (postscript_of t)
      records a none none d e = rw (name_from t a d e) (none_there ((acceptable t).0 a, (find_none t _).0 d, (find_none t _).0 e))
      records a (some i) none d e = rw (name_from t a d e) (one_there ((acceptable t).0 a, inl ((i, find_has t _ d), (find_none t _).0 e)))
      records a none (some j) d e = rw (name_from t a d e) (one_there ((acceptable t).0 a, inr ((find_none t _).0 d, (j, find_has t _ e))))
      records a (some i) (some j) d e =
          rw (name_from t a d e) (strings i j ((acceptable t).0 a) (find_has t _ d) (find_has t _ e) _ _ refl refl)

      checked : (o : Option Refusal) → faults t ≡ o → Way t (postscript_of t)
      checked (some r) a = rw (name_refused t a) (refusal a)
      checked none a = records a _ _ refl refl

  -- and each leads back to it
  both : {P : ℕ → ℕ → Type 0} (w : WithBoth t P) → postscript_of t ≡ from_strings (text_of t w.i) (bytes_of t w.i) (bytes_of t w.j)
  unfolding from_both
  both w =
      let a = (acceptable t).1 w.accepted in
      name_from t a (find_at t _ b a w.first) (find_at t _ b a w.second)

  settled : {o : Outcome Text} → Way t o → postscript_of t ≡ o
  unfolding from_both
  settled (refusal a) = name_refused t a
  settled (name w) =
      let h = w.holds in
      both w ∙ strings_alike _ _ _ ((formed t _ _).1 h.0) ((same t _ _).1 h.1) ∙ ap answered (sym ((text_is t _ _).1 h.2))
  settled (none_there (x, f, s)) = name_from t ((acceptable t).1 x) ((find_none t _).1 f) ((find_none t _).1 s)
  settled (one_there (x, y)) =
      let a = (acceptable t).1 x in
      ⊎_elim
      (λ z. name_from t a (find_at t _ b a z.0.1) ((find_none t _).1 z.1))
      (λ z. name_from t a ((find_none t _).1 z.0) (find_at t _ b a z.1.1))
      y
  settled (ill_formed_lem w) = both w ∙ strings_ill _ _ _ (λ e. w.holds ((formed t _ _).0 e))
  settled (different w) = both w ∙ strings_unlike _ _ _ ((formed t _ _).1 w.holds.0) (λ e. w.holds.1 ((same t _ _).0 e))

-- ---- what an outcome says of a table, by its number

abbrev Choose : Bool → Type 0 → Type 0 → Type 0
Choose true P Q = P
Choose false P Q = Q

abbrev Says : List ℕ → Outcome Text → Type 0
Says t (answered x) = Named t x
Says t (refused n c) =
    Choose (eqb n 21) (Neither t) (Choose (eqb n 22) (ExactlyOne t) (Choose (eqb n 23) (NotFormed t) (Choose (eqb n 24) (Unlike t) (Unit {0}))))

says : (t : List ℕ) {o : Outcome Text} → Way t o → Says t o
says t (refusal {r} a) =
    let other : (n : ℕ) → tables n ≡ false → eqb r.number n ≡ false = λ n l. ne_eqb _ n (not_tables t n l r a) in
    rw (other 21 refl, other 22 refl, other 23 refl, other 24 refl) tt
says t (name w) = w
says t (none_there w) = w
says t (one_there w) = w
says t (ill_formed_lem w) = w
says t (different w) = w

pub postscript_right : PostscriptRight postscript_of
postscript_right =
    record {
      passes_on = λ t r a. name_refused t ((refused_exactly t r).1 a);
      named = λ t b x. (λ h. says t (rw h at (way t b)), λ w. settled t b (name w));
      neither = λ t b. (λ h. says t (rw h at (way t b)), λ w. settled t b (none_there w));
      exactly_one = λ t b. (λ h. says t (rw h at (way t b)), λ w. settled t b (one_there w));
      not_formed = λ t b. (λ h. says t (rw h at (way t b)), λ w. settled t b (ill_formed_lem w));
      unlike = λ t b. (λ h. says t (rw h at (way t b)), λ w. settled t b (different w));
    }

-- the propositions settle every answer: whatever reader meets them answers as the definition does
pub postscript_only : (read : List ℕ → Outcome Text) → PostscriptRight read → (t : List ℕ) → Bytes t → read t ≡ postscript_of t
postscript_only read right t b = by (way t b)
  where
    by : {o : Outcome Text} → Way t o → read t ≡ o
    by (refusal {r} a) = right.passes_on t r ((refused_exactly t r).0 a)
    by (name {x} w) = (right.named t b x).1 w
    by (none_there w) = (right.neither t b).1 w
    by (one_there w) = (right.exactly_one t b).1 w
    by (ill_formed_lem w) = (right.not_formed t b).1 w
    by (different w) = (right.unlike t b).1 w

pub name_bytes : GivesItsBytes postscript_of
name_bytes t b x h =
    let w = (postscript_right.named t b x).0 h in
    let s = w.holds.2 in
    (subst (First t) (sym s.number) w.first, has_bytes t _ ((text_is t _ x).1 s) w.accepted w.first.inside)

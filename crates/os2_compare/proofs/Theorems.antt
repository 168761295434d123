-- Ask 2 for two 'OS/2' tables: the list has what document 01's answers settle, in field order, and each outcome is that of one walk over the five ways of a
-- comparison (`comparing`), for which a table's refusals are those of its check.
-- Assumes nothing.
use Prim.Native.Nat.{ℕ, ◌*◌, ◌≤◌}
use mathlib.Core.Path.{◌≡◌, sym, ap, ◌∙◌, subst}
use mathlib.Core.Logic.Iff
use mathlib.Core.Logic.{◌↔◌}
use mathlib.Core.Option.{none, some}
use mathlib.Core.List.{List, [], Memᴰ}
use native.Mathlib.Omega.{arith}
use borrow.Author.Tests.{le-ltb}
use lib.Dec.{ltb}
use lib.IntN.{ℤ}
use lib.ListN.{length}
use Rattle.outcomes.specs.Firsts.{when, ◌then◌}
use Rattle.outcomes.specs.Outcomes.{Refusal, bare, accepted, unless, refusing}
use Rattle.outcomes.proofs.Laws.{when_none, when_some, unless_refused}
use Rattle.outcomes.proofs.Tests.{below, not_below}
use Rattle.level.specs.Levels.{newest}
use Rattle.os2_fields.specs.Catalogue.{field_count}
use Rattle.os2_acceptance.specs.Acceptance.{judged, checked}
use Rattle.os2_acceptance.specs.Settled.{CheckSettled}
use Rattle.os2_acceptance.proofs.Accepting.{check_settles, check_settled_is}
use Rattle.comparing.specs.Lists.{ListOf}
use Rattle.comparing.specs.Comparisons.{Comparison, listed}
use Rattle.comparing.proofs.Lists.{one_each, in_list, rises, none_so}
use Rattle.comparing.proofs.Settling.{Exactly, Compares, listed_within, settles, settled_is}
use Rattle.os2_compare.specs.Differences.{Difference, difference_at, differences, row_of}
use Rattle.os2_compare.specs.Comparisons.{level_refusal, blame_of, compared_of, room_of}
use Rattle.os2_compare.specs.Settled.{Differs, field_differs, FieldBelow, CallRefused, TableRefused, ComparesOs2, NeverNotKnown}
use Rattle.os2_compare.proofs.Answers.{differ_exactly, answer_settled, settled_answer, unknown_both}
use Rattle.os2_compare.proofs.Lists.{is_here, row_five}

-- ---- the list

module _ (L : ℕ) (left right : List ℕ) where
  -- it has the entries of fields 0 to 47
  in_differences : (d : Difference) → Memᴰ d (differences L left right) ↔ ((k : ℕ) × (k ≤ 47) × (difference_at L left right k ≡ some d))
  unfolding differences
  in_differences d = Iff.trans (in_list _ d _) (λ p. (p.0, omega (arith, p.1), p.2), λ p. (p.0, omega (arith, p.1), p.2))

  field_of : {k : ℕ} {d : Difference} → difference_at L left right k ≡ some d → d.field ≡ k
  unfolding difference_at
  field_of {k} {d} e = sym (ap (λ (x : Difference). x.field) ((when_some _ _ d).0 e).1)

pub lists_exactly : (L : ℕ) (left right : List ℕ) → L ≤ newest → judged L left ≡ none → judged L right ≡ none →
    ListOf FieldBelow (Differs L left right) (differences L left right)
unfolding differences difference_at
lists_exactly L left right h l r =
    record {
      exactly = λ d. (λ m. there ((in_differences L left right d).0 m), back);
      rising = rises (difference_at L left right) _ (λ j k d e n m p q. omega (arith, field_of L left right p, field_of L left right q));
    }
  where
    there : {d : Difference} → (k : ℕ) × (k ≤ 47) × (difference_at L left right k ≡ some d) → Differs L left right d
    there {d} p =
        let w = (when_some _ _ d).0 p.2 in
        subst (Differs L left right) w.1
        (field_differs p.1 (answer_settled L left p.0 h l p.1) (answer_settled L right p.0 h r p.1) ((differ_exactly _ _).0 w.0))

    back : {d : Difference} → Differs L left right d → Memᴰ d (differences L left right)
    back (field_differs {k} {a} {b} n x y e) =
        (in_differences L left right _).1 (k, n, is_here L left right k (settled_answer L left k x) (settled_answer L right k y) ((differ_exactly a b).1 e))

-- a table does not differ from itself
pub none_of_itself : (L : ℕ) (b : List ℕ) → L ≤ newest → judged L b ≡ none → differences L b b ≡ []
none_of_itself L b h a = none_so (differences L b b) (lists_exactly L b b h a a) never
  where
    never : (d : Difference) → Differs L b b d → ⊥
    never _ (field_differs {k} n x y e) = e (settled_answer L b k x ∙ sym (settled_answer L b k y))

-- ---- the refusals

on_call_lem : (L : ℕ) → Exactly (level_refusal L) (CallRefused L)
unfolding level_refusal
on_call_lem L r = Iff.trans (when_some (ltb newest L) (bare 1) r) (Iff.and (below newest L) (λ e. sym e, λ e. sym e))

module _ (L : ℕ) (b : List ℕ) where
  checked_low : L ≤ newest → checked L b ≡ unless (judged L b) accepted
  unfolding checked when ◌then◌
  checked_low h = rw (le-ltb newest L h)

  refused_exactly : L ≤ newest → (r : Refusal) → (judged L b ≡ some r) ↔ CheckSettled L b (refusing r)
  refused_exactly h r = (
    λ e. subst (CheckSettled L b) (checked_low h ∙ (unless_refused (judged L b) tt r.number r.carried).1 e) (check_settles L b),
    λ x. (unless_refused (judged L b) tt r.number r.carried).0 (sym (checked_low h) ∙ sym (check_settled_is L b (refusing r) x)),
  )

-- ---- the comparison

module _ (L : ℕ) (left right : List ℕ) where
  -- the call is not refused: the level is one of 0 to 5
  low : level_refusal L ≡ none → L ≤ newest
  unfolding level_refusal
  low c = (not_below newest L).0 ((when_none (ltb newest L) (bare 1)).0 c)

  compares :
      Compares (CallRefused L) (TableRefused L left) (TableRefused L right) FieldBelow (Differs L left right) row_of
      (level_refusal L) (judged L left) (judged L right) (differences L left right)
  compares =
      record {
        on_call = on_call_lem L;
        on_left = λ c. refused_exactly L left (low c);
        on_right = λ c. refused_exactly L right (low c);
        lists = λ c l r. lists_exactly L left right (low c) l r;
        five = row_five;
        asymmetric = λ d e h l. omega arith;
      }

pub compares_os2 : ComparesOs2 compared_of room_of
unfolding blame_of compared_of room_of
compares_os2 L left right room = settles _ _ _ _ _ row_of (level_refusal L) (judged L left) (judged L right) (differences L left right) (compares L left right) room

-- that leaves no other answer, and no other room
pub compares_only : (answer : ℕ → List ℕ → List ℕ → ℕ → Comparison) (after : ℕ → List ℕ → List ℕ → List ℤ → List ℤ) → ComparesOs2 answer after →
    (L : ℕ) (left right : List ℕ) (room : List ℤ) →
    (answer L left right (length room) ≡ compared_of L left right (length room)) × (after L left right room ≡ room_of L left right room)
unfolding blame_of compared_of room_of
compares_only answer after x L left right room =
    settled_is _ _ _ _ _ row_of (level_refusal L) (judged L left) (judged L right) (differences L left right) (compares L left right) room _ _ (x L left right room)

-- ---- "not known"

pub never_not_known : NeverNotKnown
never_not_known L left right d (field_differs {k} n x y e) = (
  λ p. e (p ∙ sym (unknown_both L left right k x y p)),
  λ p. e (unknown_both L right left k y x p ∙ sym p),
)

-- ---- the rows

-- those that are answered are in the room
pub rows_within : (L : ℕ) (left right : List ℕ) (numbers n : ℕ) → compared_of L left right numbers ≡ listed n → 5 * n ≤ numbers
unfolding blame_of compared_of
rows_within L left right numbers n e = listed_within (level_refusal L) (judged L left) (judged L right) (length (differences L left right)) numbers n e

-- and 48 are always enough
pub forty_eight : (L : ℕ) (left right : List ℕ) → length (differences L left right) ≤ 48
unfolding differences
forty_eight L left right = one_each (difference_at L left right) field_count

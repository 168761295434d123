-- Demand 3, once over the two levels: the levels enter only through `≤`, since below `given` nothing knows the level.
-- Assumes nothing.
use Prim.Native.Nat.{ℕ, ◌≤◌}
use mathlib.Core.Path.{◌≡◌, refl, sym, ap, ◌∙◌}
use mathlib.Core.Logic.{◌⊎◌, inl, inr, ⊎_elim}
use mathlib.Core.Option.{Option, none, some}
use mathlib.Core.List.{List}
use native.Mathlib.Nat.{le_trans}
use native.Mathlib.Omega.{arith}
use lib.ListN.{length}
use Rattle.outcomes.specs.Firsts.{when, ◌then◌}
use Rattle.outcomes.specs.Outcomes.{Refusal, Outcome, refused, answered, accepted, unless}
use Rattle.level.specs.Levels.{newest}
use Rattle.level.specs.Sizes.{table_size}
use Rattle.bigendian.specs.Numbers.{number, stored}
use Rattle.os2_rules.proofs.Exactly.{plain_kept}
use Rattle.os2_fields.specs.Catalogue.{catalogue, field_of}
use Rattle.os2_fields.specs.Fields.{raw_in, version, values_of}
use Rattle.os2_acceptance.specs.Acceptance.{under_two, under_size, short, ruling, judged, checked}
use Rattle.os2_acceptance.specs.Settled.{Short, Accepted}
use Rattle.os2_acceptance.proofs.Accepting.{judged_exactly, judged_short, checked_exactly, accepted_down, lower_accepts, two_levels}
use Rattle.os2_questions.specs.declared.Question.{Question}
use Rattle.os2_questions.specs.declared.Question.TheVariants.{Rights}
use Rattle.os2_questions.specs.Questions.{own_refusal, since, on_whole}
use Rattle.os2_questions.specs.Settled.{CameIn, rights_came, Later, after, newer}
use Rattle.os2_questions.proofs.Cases.{known_exactly, not_above}
use Rattle.os2_questions.proofs.Settling.{came_since, later_is, later_exactly}
use Rattle.os2_answers.specs.Values.{Said, value, not_known}
use Rattle.os2_answers.specs.Asking.{value_of, given, ask}
use Rattle.os2_answers.specs.Demands.{Agreement, Demand3, SameOrNewer}
use Rattle.os2_answers.specs.Examples.{first}
use Rattle.os2_answers.proofs.Cases.{given_down, given_unknown, given_not_known, given_value}
use Rattle.os2_answers.proofs.Settling.{ask_own, ask_judged, ask_accepted, settles}

-- ---- demand 3

pub demand_3 : Demand3 checked ask
demand_3 L H h l b q =
    record {
      lower_exactly = checked_exactly L low b;
      higher_exactly = checked_exactly H l b;
      lower_accepts = lower_accepts h b l;
      same_or_not_known = λ e. same ((checked_exactly H l b).0 e) (own_refusal q) refl;
      lower_settled = settles L b q;
      higher_settled = settles H b q;
      not_known_exactly = λ e. let a = (checked_exactly L low b).0 e in (knows a (own_refusal q) refl, unknown a);
    }
  where
    low : L ≤ newest
    low = le_trans h l

    same : Accepted H b → (o : Option Refusal) → own_refusal q ≡ o → (ask L b q ≡ ask H b q) ⊎ (ask L b q ≡ answered not_known)
    same a (some r) e = inl (ask_own L b q low e ∙ sym (ask_own H b q l e))
    same a none e =
        rw (ask_accepted L b q low e (accepted_down h b a), ask_accepted H b q l e a)
        (⊎_elim (λ d. inl (ap answered d)) (λ d. inr (ap answered d)) (given_down h b q))

    knows : Accepted L b → (o : Option Refusal) → own_refusal q ≡ o → ask L b q ≡ answered not_known → Later L b q
    knows a (some r) e d =
        let o : refused r.number r.carried ≡ answered not_known = sym (ask_own L b q low e) ∙ d in
        let z : ◌≡◌ {A = ℕ} 0 1 = cc in
        absurd (omega arith)
    knows a none e d =
        let g : answered (given L b q) ≡ answered not_known = sym (ask_accepted L b q low e a) ∙ d in
        (later_exactly L b q e).0 (given_unknown L b q (cc))

    unknown : Accepted L b → Later L b q → ask L b q ≡ answered not_known
    unknown a x = let i = later_is L b q x in ask_accepted L b q low i.0 a ∙ ap answered (given_not_known L b q i.1)

-- ---- what two levels owe each other where the higher refuses

-- of what came in with version 0: both levels say the same, or the lower accepts the bytes and the table is newer than it
pub same_or_newer : SameOrNewer ask
unfolding unless
same_or_newer L H h l b q c = ⊎_elim (λ o. inl (old o.0 o.1)) (⊎_elim (λ s. inl (both s)) inr) (two_levels h b)
  where
    r : own_refusal q ≡ none
    r = (came_since c).0

    value_at : (K : ℕ) → version b ≤ K → given K b q ≡ value (value_of b q)
    value_at K v =
        given_value K b q ((known_exactly (since q) (on_whole q) K (version b)).1 (omega (arith, (came_since c).1), λ w. v))
        ((not_above (since q) (version b)).1 (omega (arith, (came_since c).1)))

    old : version b ≤ L → judged L b ≡ judged H b → ask L b q ≡ ask H b q
    old v e =
        ask_judged L b q (le_trans h l) r
        ∙ (rw (e, value_at L v, ← value_at H (le_trans v h)) (sym (ask_judged H b q l r)))

    refused_2 : (K : ℕ) → K ≤ newest → Short K b → ask K b q ≡ refused 2 none
    refused_2 K k s = ask_judged K b q k r ∙ rw (judged_short K b s)

    both : Short L b × Short H b → ask L b q ≡ ask H b q
    both s = refused_2 L (le_trans h l) s.0 ∙ sym (refused_2 H l s.1)

-- ---- readers that the demands rule out

-- document 01's first starred table: 78 zero bytes but weight 400, width 5
first_accepted : (L : ℕ) → L ≤ newest → Accepted L (first 78)
unfolding judged short under_two under_size ruling ◌then◌ when values_of raw_in field_of catalogue number stored table_size
first_accepted L l = accepted_down l (first 78) ((judged_exactly newest (first 78)).0 plain_kept)

first_version : version (first 78) ≡ 0
unfolding raw_in field_of catalogue number stored
first_version = refl

module _ (check : ℕ → List ℕ → Outcome (Unit {0})) (read : ℕ → List ℕ → Question → Outcome Said) (d : Demand3 check read) where
  ours : Agreement check read newest newest (first 78) Rights
  ours = d newest newest (omega arith) (omega arith) (first 78) Rights

  accepts : check newest (first 78) ≡ accepted
  accepts = ours.higher_exactly.1 (first_accepted newest (omega arith))

  -- none refuses at levels 0 to 5 every table of at most n bytes, for any n from 78 on, whatever it does with longer ones
  pub not_refusing_all : (n : ℕ) → 78 ≤ n → ((L : ℕ) (b : List ℕ) → L ≤ newest → length b ≤ n → check L b ≡ accepted → ⊥) → ⊥
  unfolding stored field_of catalogue
  not_refusing_all n h all = all newest (first 78) (omega arith) h accepts

  -- none answers "not known" at levels 0 to 5, on accepted bytes, to every question on something that came in, whatever it does elsewhere
  pub not_all_unknown : ((L : ℕ) (b : List ℕ) (q : Question) (p : ℕ) → L ≤ newest → Accepted L b → CameIn q p → read L b q ≡ answered not_known) → ⊥
  unfolding since
  not_all_unknown all =
      never ((ours.not_known_exactly accepts).0 (all newest (first 78) Rights 0 (omega arith) (first_accepted newest (omega arith)) rights_came))
    where
      never : Later newest (first 78) Rights → ⊥
      never (after c h) = omega (arith, (came_since c).1)
      never (newer o h) = omega (arith, first_version)

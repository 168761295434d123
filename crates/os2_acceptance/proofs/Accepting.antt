-- Acceptance: a level accepts exactly the bytes that neither refusal 2 nor refusal 3 turns away.
-- Assumes nothing.
use Prim.Native.Nat.{ℕ, min, ◌<◌, ◌≤◌}
use mathlib.Core.Path.{◌≡◌, refl, ◌∙◌, subst}
use mathlib.Core.Logic.Iff
use mathlib.Core.Logic.{◌⊎◌, inl, inr, ◌↔◌}
use mathlib.Core.Bool.{Bool, true, false, cond, false≢true}
use mathlib.Core.Option.{Option, none, some}
use mathlib.Core.List.{List}
use native.Mathlib.Nat.{le_refl, le_trans, min-eq_left}
use native.Mathlib.Decide.{dec_lt}
use native.Mathlib.Omega.{arith}
use lib.Dec.{ltb, leb}
use lib.ListN.{length}
use borrow.Author.Tests.{lt-ltb, le-ltb, le-leb}
use Rattle.outcomes.specs.Firsts.{when, ◌then◌}
use Rattle.outcomes.specs.Outcomes.{Outcome, Refusal, bare, carrying, accepted, unless}
use Rattle.outcomes.proofs.Laws.{passed, unless_answered}
use Rattle.outcomes.proofs.Tests.{below, not_below, at_most, or_false, or_true, fails, implies, either}
use Rattle.level.specs.Levels.{newest, number_of, level_of}
use Rattle.level.specs.Sizes.{table_size}
use Rattle.level.specs.declared.Level.{Level}
use Rattle.std.specs.Prelude.{Ok, Err}
use Rattle.level.specs.declared.LevelAbove.{LevelAbove}
use Rattle.level.proofs.Laws.{known, refused, size_rises}
use Rattle.os2_rules.specs.Tests.{verdict_of}
use Rattle.os2_rules.specs.Rules.{Rules}
use Rattle.os2_rules.proofs.Exactly.{kept_exactly, broken_first, broken_exactly}
use Rattle.os2_fields.specs.Catalogue.{field_of}
use Rattle.os2_fields.specs.Fields.{raw, version, values_of}
use Rattle.os2_fields.specs.Reading.{Lies, Word}
use Rattle.os2_fields.proofs.Tiling.{lies, word}
use Rattle.os2_acceptance.specs.Acceptance.{under_two, under_size, short, ruling, judged, checked}
use Rattle.os2_acceptance.specs.Settled.{Short, BreaksFirst, Accepted, check_above, check_short, check_broken, check_accepted, CheckSettled}
use Rattle.os2_acceptance.specs.Demands.{AcceptsExactly, ChecksSettled}

-- ---- what is applied under a condition alone

only_none : (t : Bool) (o : Option Refusal) → (cond t o none ≡ none) ↔ (t ≡ true → o ≡ none)
only_none true o = (λ e d. e, λ h. h refl)
only_none false o = (λ e d. absurd (false≢true d), λ h. refl)

only_some : (t : Bool) (o : Option Refusal) (r : Refusal) → (cond t o none ≡ some r) ↔ ((t ≡ true) × (o ≡ some r))
only_some true o r = (λ e. (refl, e), λ p. p.1)
only_some false o r = (λ e. let z : ◌≡◌ {A = ℕ} 0 1 = cc in absurd (omega arith), λ p. absurd (false≢true p.0))

module _ (L : ℕ) (b : List ℕ) where
  -- ---- refusal 2's test and its condition

  pub short_exactly : (short L b ≡ true) ↔ Short L b
  unfolding short under_two under_size
  short_exactly = Iff.trans (or_true (under_two b) (under_size L b)) (either (below (length b) _) (below (length b) _))

  pub long_exactly : (short L b ≡ false) ↔ ((2 ≤ length b) × (table_size (min (version b) L) ≤ length b))
  unfolding short under_two under_size
  long_exactly = Iff.trans (or_false (under_two b) (under_size L b)) (Iff.and (not_below (length b) _) (not_below (length b) _))

  -- ---- refusal 3's verdict and its condition

  pub kept_is : (ruling L b ≡ none) ↔ (version b ≤ L → Rules (values_of (raw b)))
  unfolding ruling
  kept_is = Iff.trans (only_none (leb (version b) L) (verdict_of (values_of (raw b)))) (implies (at_most (version b) L) (kept_exactly (values_of (raw b))))

  broken_is : (k : ℕ) → (ruling L b ≡ some (carrying 3 k)) ↔ BreaksFirst L b k
  unfolding ruling
  broken_is k =
      Iff.trans (only_some (leb (version b) L) (verdict_of (values_of (raw b))) (carrying 3 k))
      (Iff.and (at_most (version b) L) (broken_exactly (values_of (raw b)) k))

  rule_told : (r : Refusal) → ruling L b ≡ some r → (k : ℕ) × (carrying 3 k ≡ r) × BreaksFirst L b k
  unfolding ruling
  rule_told r e =
      let p = (only_some (leb (version b) L) (verdict_of (values_of (raw b))) r).0 e in
      let t = broken_first (values_of (raw b)) r p.1 in
      (t.0, t.1, ((at_most (version b) L).0 p.0, t.2))

  -- ---- neither 2 nor 3

  pub judged_exactly : (judged L b ≡ none) ↔ Accepted L b
  unfolding judged
  judged_exactly = (there, λ a. (passed (short L b) (bare 2) (ruling L b)).1 (long_exactly.1 (a.two, a.sized), kept_is.1 a.ruled))
    where
      there : judged L b ≡ none → Accepted L b
      there e =
          let p = (passed (short L b) (bare 2) (ruling L b)).0 e in
          let l = long_exactly.0 p.0 in
          record { two = l.0; sized = l.1; ruled = kept_is.0 p.1 }

  -- ---- the ways to a verdict

  pub judged_short : Short L b → judged L b ≡ some (bare 2)
  unfolding judged when ◌then◌
  judged_short h = rw (short_exactly.1 h)

  pub judged_long : 2 ≤ length b → table_size (min (version b) L) ≤ length b → judged L b ≡ ruling L b
  unfolding judged when ◌then◌
  judged_long two sized = rw (long_exactly.1 (two, sized))

  pub judged_broken : (k : ℕ) → (Short L b → ⊥) → BreaksFirst L b k → judged L b ≡ some (carrying 3 k)
  unfolding judged when ◌then◌
  judged_broken k n h = rw ((fails (short L b) short_exactly).1 n) ((broken_is k).1 h)

  -- the rules' own verdict, of a table that they apply to
  pub judged_ruled : 2 ≤ length b → table_size (min (version b) L) ≤ length b → version b ≤ L → judged L b ≡ verdict_of (values_of (raw b))
  unfolding ruling
  judged_ruled two sized h = judged_long two sized ∙ rw (le-leb (version b) L h)

  -- a fact of each way is one of the verdict
  pub judged_ways : (P : Option Refusal → Type 0) → (Short L b → P (some (bare 2))) →
      ((k : ℕ) → (Short L b → ⊥) → BreaksFirst L b k → P (some (carrying 3 k))) → (Accepted L b → P none) → P (judged L b)
  unfolding judged when ◌then◌
  judged_ways P s r a = size (short L b) refl
    where
      rule : short L b ≡ false → (o : Option Refusal) → ruling L b ≡ o → P o
      rule e none d = a (judged_exactly.0 ((passed (short L b) (bare 2) (ruling L b)).1 (e, d)))
      rule e (some x) d =
          let t = rule_told x d in
          subst (λ (y : Refusal). P (some y)) t.1 (r t.0 ((fails (short L b) short_exactly).0 e) t.2)

      size : (t : Bool) → short L b ≡ t → P (when t (bare 2) then ruling L b)
      size true e = s (short_exactly.0 e)
      size false e = rule e (ruling L b) refl

  -- "exactly when neither 2's nor 3's condition holds"
  pub accepted_neither : Accepted L b ↔ ((Short L b → ⊥) × ((k : ℕ) → BreaksFirst L b k → ⊥))
  accepted_neither = (there, λ n. judged_ways (λ o. Accepted L b) (λ s. absurd (n.0 s)) (λ k s h. absurd (n.1 k h)) (λ a. a))
    where
      there : Accepted L b → (Short L b → ⊥) × ((k : ℕ) → BreaksFirst L b k → ⊥)
      there a =
          let long = long_exactly.1 (a.two, a.sized) in
          ((fails (short L b) short_exactly).0 long, λ k h. clash k (kept_is.1 a.ruled) ((broken_is k).1 h))
        where
          clash : (k : ℕ) → ruling L b ≡ none → ruling L b ≡ some (carrying 3 k) → ⊥
          clash k e d = let z : ◌≡◌ {A = ℕ} 0 1 = cc in omega arith

-- ---- the check: refusal 1, then the verdict

-- demand 2, of ours
pub accepts_exactly : AcceptsExactly checked
unfolding checked
accepts_exactly L b = (there, back)
  where
    there : checked L b ≡ accepted → (L ≤ newest) × Accepted L b
    there e =
        let p = (passed (ltb newest L) (bare 1) (judged L b)).0 ((unless_answered _ accepted tt).0 e).0 in
        ((not_below newest L).0 p.0, (judged_exactly L b).0 p.1)

    back : (L ≤ newest) × Accepted L b → checked L b ≡ accepted
    back a =
        (unless_answered _ accepted tt).1
        ((passed (ltb newest L) (bare 1) (judged L b)).1 ((not_below newest L).1 a.0, (judged_exactly L b).1 a.1), refl)

pub checked_exactly : (L : ℕ) → L ≤ newest → (b : List ℕ) → (checked L b ≡ accepted) ↔ Accepted L b
checked_exactly L h b = (λ e. ((accepts_exactly L b).0 e).1, λ a. (accepts_exactly L b).1 (h, a))

-- demand 1, of ours
pub check_settles : ChecksSettled checked
unfolding checked unless when ◌then◌
check_settles L b = level (ltb newest L) refl
  where
    level : (t : Bool) → ltb newest L ≡ t → CheckSettled L b (unless (when t (bare 1) then judged L b) accepted)
    level true e = check_above ((below newest L).0 e)
    level false e =
        let h = (not_below newest L).0 e in
        judged_ways L b (λ o. CheckSettled L b (unless o accepted)) (check_short h) (λ k. check_broken h) (check_accepted h)

-- and nothing else is settled
pub check_settled_is : (L : ℕ) (b : List ℕ) (o : Outcome (Unit {0})) → CheckSettled L b o → o ≡ checked L b
unfolding checked unless when ◌then◌
check_settled_is L b o (check_above h) = rw (lt-ltb newest L h)
check_settled_is L b o (check_short h s) = rw (le-ltb newest L h, judged_short L b s)
check_settled_is L b o (check_broken {k} h n f) = rw (le-ltb newest L h, judged_broken L b k n f)
check_settled_is L b o (check_accepted h a) = rw (le-ltb newest L h, (judged_exactly L b).1 a)

-- a level's number is its own, and any other number is refusal 1
module _ (L : ℕ) (b : List ℕ) where
  pub checked_known : {l : Level} → level_of L ≡ Ok l → unless (judged (number_of l) b) accepted ≡ checked L b
  unfolding checked when ◌then◌
  checked_known {l} e = let k = known L l e in rw (k.1, le-ltb newest L k.0)

  pub checked_refused : (r : LevelAbove) → level_of L ≡ Err r → unless (some (bare 1)) accepted ≡ checked L b
  unfolding checked when ◌then◌
  checked_refused r e = rw (lt-ltb newest L (refused L r e))

  -- a table that the check accepts is one that neither 2 nor 3 turns away
  pub open_checked : checked L b ≡ accepted → judged L b ≡ none
  open_checked e = (judged_exactly L b).1 ((accepts_exactly L b).0 e).1

  pub open_known : {l : Level} → level_of L ≡ Ok l → checked L b ≡ accepted → judged (number_of l) b ≡ none
  open_known {l} e d = rw (known L l e).1 (open_checked d)

-- ---- two levels

module _ {L H : ℕ} (h : L ≤ H) (b : List ℕ) where
  -- what the higher accepts, the lower does
  pub accepted_down : Accepted H b → Accepted L b
  accepted_down a =
      record {
        two = a.two;
        sized = le_trans (size_rises (min (version b) L) (min (version b) H) (omega arith)) a.sized;
        ruled = λ l. a.ruled (le_trans l h);
      }

  pub lower_accepts : H ≤ newest → checked H b ≡ accepted → checked L b ≡ accepted
  lower_accepts l e = (checked_exactly L (le_trans h l) b).1 (accepted_down ((checked_exactly H l b).0 e))

  -- both say the same of a table that is not newer than the lower; a newer one is too short for both, or the lower accepts it
  pub two_levels : ((version b ≤ L) × (judged L b ≡ judged H b)) ⊎ ((Short L b × Short H b) ⊎ (Accepted L b × (L < version b)))
  unfolding judged ruling short under_two under_size
  two_levels = at (dec_lt L (version b)) (dec_lt (length b) 2) (dec_lt (length b) (table_size (min (version b) L)))
    where
      at : Dec (L < version b) → Dec (length b < 2) → Dec (length b < table_size (min (version b) L)) →
          ((version b ≤ L) × (judged L b ≡ judged H b)) ⊎ ((Short L b × Short H b) ⊎ (Accepted L b × (L < version b)))
      at (no n) s d =
          let v : version b ≤ L = omega arith in
          inl (v, rw (min-eq_left v, min-eq_left (le_trans v h), le-leb (version b) L v, le-leb (version b) H (le_trans v h)))
      at (yes n) (yes s) d = inr (inl (inl s, inl s))
      at (yes n) (no s) (yes d) =
          let rises = size_rises (min (version b) L) (min (version b) H) (omega arith) in
          inr (inl (inr d, inr (omega arith)))
      at (yes n) (no s) (no d) = inr (inr (record { two = omega arith; sized = omega arith; ruled = λ v. absurd (omega arith) }, n))

-- ---- what acceptance gives the code that reads

module _ (L : ℕ) (b : List ℕ) (told : judged L b ≡ none) where
  pub open_two : 2 ≤ length b
  open_two = ((judged_exactly L b).0 told).two

  pub open_sized : (v : ℕ) → v ≤ L → v ≤ version b → table_size v ≤ length b
  open_sized v p q = le_trans (size_rises v (min (version b) L) (omega arith)) ((judged_exactly L b).0 told).sized

  pub open_lies : (k : ℕ) → k < 48 → (field_of k).since ≤ L → (field_of k).since ≤ version b → Lies b (field_of k)
  open_lies k h p q = lies b k (field_of k).since h (le_refl (field_of k).since) (open_sized (field_of k).since p q)

  pub open_word : (k : ℕ) → k < 48 → (field_of k).width ≡ 2 → (field_of k).since ≤ L → (field_of k).since ≤ version b → Word b (field_of k)
  open_word k h w p q = word b k (field_of k).since h w (le_refl (field_of k).since) (open_sized (field_of k).since p q)

  pub open_rules : version b ≤ L → Rules (values_of (raw b))
  open_rules = ((judged_exactly L b).0 told).ruled

-- The definition gives what document 01's propositions say: a start yields a number exactly where it qualifies, so the first that yields one is the
-- first that qualifies.
-- Assumes nothing.
use Prim.Native.Nat.{ℕ, zero, suc, ◌+◌, ◌-◌, ◌/◌, ◌%◌, ◌<◌, ◌≤◌}
use native.Mathlib.Omega.{arith}
use mathlib.Core.Path.{◌≡◌, refl, sym, ap, ◌∙◌}
use mathlib.Core.Bool.{Bool, true, false, not, ◌&&◌, true≢false}
use mathlib.Core.Option.{Option, none, some}
use mathlib.Core.List.{List}
use mathlib.Core.Logic.{◌↔◌, ◌⊎◌, inl, inr, ⊎_elim}
use lib.Dec.{eqb}
use lib.ListN.{length, drop}
use borrow.Author.Tests.{not-true, ltb-true}
use Rattle.outcomes.specs.Firsts.{when}
use Rattle.outcomes.specs.Outcomes.{bare, Outcome, refused, answered, unless, found_or}
use Rattle.outcomes.proofs.Tests.{equal, and_true, fails}
use Rattle.outcomes.proofs.Laws.{when_none, when_some, first_all, first_exactly, unless_answered}
use Rattle.characters.specs.Digits.{digit, Digit}
use Rattle.characters.specs.Strings.{characters, char, odd}
use Rattle.characters.proofs.Digits.{digit_is}
use Rattle.characters.proofs.Laws.{char_within, char_pairs, length_pairs}
use Rattle.version_text.specs.Versions.{period, digits, group_end, figure, group_figure, small, may_start, is_number}
use Rattle.version_text.specs.Versions.{Figures, number_at, first_number, version_in}
use Rattle.version_text.specs.Qualifying.{Group, Qualifies, First, Odd, Right, HighByteZero}
use Rattle.version_text.proofs.Groups.{digit_within, digits_more, digits_each, digits_end, digits_are, Read}
use Rattle.version_text.proofs.Starts.{yields}

digit_not : (c : ℕ) → (Digit c → ⊥) → digit c ≡ false
digit_not c = (fails (digit c) (digit_is c)).1

-- ---- a digit group

-- the digits that start at a place are a group
group_there : (l : List ℕ) (i : ℕ) → digit (char l i) ≡ true → small (group_figure l i) ≡ true → Group l i (group_end l i) (group_figure l i)
unfolding group_end group_figure small
group_there l i d s =
    let e : i + digits (drop i l) - i ≡ digits (drop i l) = omega arith in
    record {
      some = omega (arith, digits_more l i d);
      digits = λ m g h. let f : i + (m - i) ≡ m = omega arith in (digit_is (char l m)).0 (rw f at (digits_each (m - i) l i (omega arith)));
      ends = λ q. true≢false (sym ((digit_is _).1 q) ∙ digits_end (digits (drop i l)) l i refl);
      reads = ap (figure l i) e;
      below = ltb-true _ _ s;
    }

-- and no other are
group_read : (l : List ℕ) (i j a : ℕ) → Group l i j a → Read l i j a
unfolding group_end group_figure
group_read l i j a g =
    let e : i + (j - i) ≡ j = omega (arith, g.some) in
    let n : digits (drop i l) ≡ j - i =
    digits_are (j - i) l i (λ m h. (digit_is (char l (i + m))).1 (g.digits (i + m) (omega arith) (omega arith))) (rw e (digit_not (char l j) g.ends)) in
    record { ends = rw n (sym e); held = rw (n, g.reads) (omega (arith, g.below)) }

group_digit : (l : List ℕ) (i j a : ℕ) → Group l i j a → digit (char l i) ≡ true
group_digit l i j a g = (digit_is (char l i)).1 (g.digits i (omega arith) g.some)

-- ---- a start

-- a place where a number may start holds a digit, and stands alone
alone_there : (l : List ℕ) (i : ℕ) → may_start l i ≡ true → (digit (char l i) ≡ true) × (0 < i → Digit (char l (i - 1)) → ⊥)
unfolding may_start
alone_there l zero e = (e, λ h q. absurd (omega arith))
alone_there l (suc i) e =
    let p = (and_true (not (digit (char l i))) (digit (char l (suc i)))).0 e in
    let f : suc i - 1 ≡ i = omega arith in
    (p.1, λ h q. true≢false (sym ((digit_is (char l i)).1 (rw f at q)) ∙ not-true _ p.0))

may_start_there : (l : List ℕ) (i : ℕ) → digit (char l i) ≡ true → (0 < i → Digit (char l (i - 1)) → ⊥) → may_start l i ≡ true
unfolding may_start
may_start_there l zero d h = d
may_start_there l (suc i) d h =
    let f : suc i - 1 ≡ i = omega arith in
    rw (digit_not (char l i) (λ q. h (omega arith) (rw f q))) d

-- the five tests of a number
tests : (l : List ℕ) (i k : ℕ) → is_number l i k ≡ true
    → (may_start l i ≡ true) × ((char l (group_end l i) ≡ 46) × ((digit (char l k) ≡ true) × ((small (group_figure l i) ≡ true) × (small (group_figure l k) ≡ true))))
unfolding is_number period
tests l i k e =
    let point = period (char l (group_end l i)) in
    let p = (and_true (may_start l i && point && digit (char l k) && small (group_figure l i)) (small (group_figure l k))).0 e in
    let q = (and_true (may_start l i && point && digit (char l k)) (small (group_figure l i))).0 p.0 in
    let r = (and_true (may_start l i && point) (digit (char l k))).0 q.0 in
    let s = (and_true (may_start l i) point).0 r.0 in
    (s.0, ((equal _ _).0 s.1, (r.1, (q.1, p.1))))

-- a start yields a number exactly where it qualifies
qualifies : (l : List ℕ) (i a b : ℕ) → (number_at l i ≡ some (record { major = a; minor = b })) ↔ Qualifies l i a b
unfolding number_at
qualifies l i a b = (there, back)
  where
    there : number_at l i ≡ some (record { major = a; minor = b }) → Qualifies l i a b
    there e =
        let k : ℕ = group_end l i + 1 in
        let w = (when_some (is_number l i k) _ _).0 e in
        let p = tests l i k w.0 in
        let u : group_figure l i ≡ a = ap (λ (f : Figures). f.major) w.1 in
        let v : group_figure l k ≡ b = ap (λ (f : Figures). f.minor) w.1 in
        let s = alone_there l i p.0 in
        record {
          j = group_end l i;
          k = group_end l k;
          first = rw u at (group_there l i s.0 p.1.1.1.0);
          period = p.1.0;
          second = rw v at (group_there l k p.1.1.0 p.1.1.1.1);
          alone = s.1;
        }

    back : Qualifies l i a b → number_at l i ≡ some (record { major = a; minor = b })
    back q =
        yields l i q.j a (group_read l i q.j a q.first) q.k b (group_read l (q.j + 1) q.k b q.second)
        (may_start_there l i (group_digit l i q.j a q.first) q.alone)
        q.period
        (group_digit l (q.j + 1) q.k b q.second)
        q.first.below
        q.second.below

-- and nothing exactly where it does not
nothing : (l : List ℕ) (i : ℕ) → (number_at l i ≡ none) ↔ ((a b : ℕ) → Qualifies l i a b → ⊥)
nothing l i = (there, by (number_at l i) refl)
  where
    there : number_at l i ≡ none → (a b : ℕ) → Qualifies l i a b → ⊥
    there e a b q =
        let n = (qualifies l i a b).1 q in
        let z : ◌≡◌ {A = ℕ} 0 1 = cc in
        omega arith

    by : (o : Option Figures) → number_at l i ≡ o → ((a b : ℕ) → Qualifies l i a b → ⊥) → o ≡ none
    by (some f) e h = absurd (h f.major f.minor ((qualifies l i f.major f.minor).0 e))
    by none e h = refl

-- ---- the first start

module _ (l : List ℕ) where
  first : (a b : ℕ) → (first_number l ≡ some (record { major = a; minor = b })) ↔ First l a b
  first a b = (there, back)
    where
      there : first_number l ≡ some (record { major = a; minor = b }) → First l a b
      there e =
          let r = (first_exactly _ _ _).0 e in
          record {
            start = r.place;
            here = (qualifies l r.place a b).0 r.here;
            least = λ i x y h. (nothing l i).0 (r.earlier i h) x y;
          }

      back : First l a b → first_number l ≡ some (record { major = a; minor = b })
      back r = (first_exactly (number_at l) (length l) _).1 (record {
        place = r.start;
        inside = digit_within l r.start (group_digit l r.start r.here.j a r.here.first);
        here = (qualifies l r.start a b).1 r.here;
        earlier = λ i h. (nothing l i).1 (λ x y. r.least i x y h);
      })

  none_first : (first_number l ≡ none) ↔ ((i a b : ℕ) → Qualifies l i a b → ⊥)
  none_first = (
    λ e i a b q. (nothing l i).0 ((first_all (number_at l) (length l)).0 e i (digit_within l i (group_digit l i q.j a q.first))) a b q,
    λ h. (first_all (number_at l) (length l)).1 (λ i g. (nothing l i).1 (h i)),
  )

-- ---- the string's bytes

odd_is : (wide : Bool) (bytes : List ℕ) → (odd wide bytes ≡ true) ↔ Odd wide bytes
unfolding odd
odd_is wide bytes = (
  λ e. let p = (and_true wide (eqb (length bytes % 2) 1)).0 e in (p.0, (equal _ _).0 p.1),
  λ o. (and_true wide (eqb (length bytes % 2) 1)).1 (o.0, (equal _ _).1 o.1),
)

-- what is answered is what was found, and 25 is that nothing was
abbrev or_none : Option Figures → Outcome Figures
or_none o = found_or (bare 25) o answered

found_is : (o : Option Figures) (f : Figures) → or_none o ≡ answered f → o ≡ some f
unfolding found_or
found_is (some g) f e = cc
found_is none f e = let z : ◌≡◌ {A = ℕ} 0 1 = cc in absurd (omega arith)

missing_is : (o : Option Figures) → or_none o ≡ refused 25 none → o ≡ none
unfolding found_or
missing_is (some g) e = let z : ◌≡◌ {A = ℕ} 0 1 = cc in absurd (omega arith)
missing_is none e = refl

-- nothing else is refused
refused_is : (t : Bool) (o : Option Figures) {n : ℕ} {c : Option ℕ} → unless (when t (bare 25)) (or_none o) ≡ refused n c
    → unless (when t (bare 25)) (or_none o) ≡ refused 25 none
unfolding unless when found_or
refused_is true o e = refl
refused_is false none e = refl
refused_is false (some f) e = let z : ◌≡◌ {A = ℕ} 0 1 = cc in absurd (omega arith)

pub refused_25 : (wide : Bool) (bytes : List ℕ) {n : ℕ} {c : Option ℕ} → version_in wide bytes ≡ refused n c → version_in wide bytes ≡ refused 25 none
unfolding version_in
refused_25 wide bytes e = refused_is (odd wide bytes) (first_number (characters wide bytes)) e

module _ (wide : Bool) (bytes : List ℕ) where
  found_right : (a b : ℕ) → (version_in wide bytes ≡ answered (record { major = a; minor = b })) ↔ ((Odd wide bytes → ⊥) × First (characters wide bytes) a b)
  unfolding version_in found_or
  found_right a b =
      let l = characters wide bytes in
      let even = fails (odd wide bytes) (odd_is wide bytes) in
      let passed = when_none (odd wide bytes) (bare 25) in
      let whole = unless_answered (when (odd wide bytes) (bare 25)) (or_none (first_number l)) (record { major = a; minor = b }) in (
        λ q. let p = whole.0 q in (even.0 (passed.0 p.0), (first l a b).0 (found_is _ _ p.1)),
        λ p. whole.1 (passed.1 (even.1 p.0), ap or_none ((first l a b).1 p.1)),
      )

  missing_right : (version_in wide bytes ≡ refused 25 none) ↔ (Odd wide bytes ⊎ ((i a b : ℕ) → Qualifies (characters wide bytes) i a b → ⊥))
  unfolding version_in unless when found_or
  missing_right = by (odd wide bytes) refl
    where
      by : (t : Bool) → odd wide bytes ≡ t
          → (unless (when t (bare 25)) (or_none (first_number (characters wide bytes))) ≡ refused 25 none)
          ↔ (Odd wide bytes ⊎ ((i a b : ℕ) → Qualifies (characters wide bytes) i a b → ⊥))
      by true e = (λ q. inl ((odd_is wide bytes).0 e), λ s. refl)
      by false e = (
        λ q. inr ((none_first (characters wide bytes)).0 (missing_is _ q)),
        ⊎_elim (λ o. absurd (true≢false (sym ((odd_is wide bytes).1 o) ∙ e))) (λ h. ap or_none ((none_first (characters wide bytes)).1 h)),
      )

-- document 01's rules hold of the definition
pub version_right : Right version_in
version_right = record { found = found_right; missing = missing_right }

-- and of no other reader: they settle every answer
pub version_only : (read : Bool → List ℕ → Outcome Figures) → Right read → (wide : Bool) (bytes : List ℕ) → read wide bytes ≡ version_in wide bytes
version_only read right wide bytes = by (version_in wide bytes) refl
  where
    by : (o : Outcome Figures) → version_in wide bytes ≡ o → read wide bytes ≡ version_in wide bytes
    by (answered f) e = (right.found wide bytes f.major f.minor).1 ((found_right wide bytes f.major f.minor).0 e) ∙ sym e
    by (refused n c) e =
        let r = refused_25 wide bytes e in
        (right.missing wide bytes).1 ((missing_right wide bytes).0 r) ∙ sym r

pub high_byte_zero : HighByteZero
high_byte_zero bytes i h =
    let c : (46 ≤ char (characters true bytes) i) × (char (characters true bytes) i ≤ 57) = ⊎_elim (λ d. (omega arith, omega arith)) (λ p. (omega arith, omega arith)) h in
    let w : i < length bytes / 2 = omega (arith, char_within (characters true bytes) i (omega arith), length_pairs bytes) in
    omega (arith, char_pairs bytes i w)

-- What the test of a digit decides, and a text of digits read one by one: a number held at `most` reads on as the number itself, held there.
-- Assumes nothing.
use Prim.Native.Nat.{ℕ, min}
use mathlib.Core.Path.{◌≡◌, sym, ap, ◌∙◌}
use mathlib.Core.Bool.{true}
use mathlib.Core.List.{List, [], ◌∷◌}
use mathlib.Core.Logic.{◌↔◌}
use native.Mathlib.Omega.{arith}
use lib.Dec.{leb}
use Rattle.outcomes.proofs.Tests.{at_most, and_true}
use Rattle.characters.specs.Digits.{digit, Digit, longer, reads_from}

pub digit_is : (c : ℕ) → (digit c ≡ true) ↔ Digit c
unfolding digit
digit_is c = (
  λ e. let p = (and_true (leb 48 c) (leb c 57)).0 e in ((at_most 48 c).0 p.0, (at_most c 57).0 p.1),
  λ d. (and_true (leb 48 c) (leb c 57)).1 ((at_most 48 c).1 d.0, (at_most c 57).1 d.1),
)

-- holding a figure at `most` does not change what a longer one is, held there
held_longer : (most n c : ℕ) → min most (longer (min most n) c) ≡ min most (longer n c)
held_longer most n c = omega arith

pub held_reads : (most n : ℕ) (l : List ℕ) → min most (reads_from (min most n) l) ≡ min most (reads_from n l)
held_reads most n [] = omega arith
held_reads most n (c ∷ cs) =
    sym (held_reads most (longer (min most n) c) cs)
    ∙ (ap (λ (x : ℕ). min most (reads_from x cs)) (held_longer most n c) ∙ held_reads most (longer n c) cs)

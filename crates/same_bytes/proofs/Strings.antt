-- The test that two texts have the same bytes is the library's, and holds exactly when they are equal.
-- Assumes nothing.
use Prim.Native.Nat.{ℕ, zero, suc, ◌+◌, ◌*◌, ◌/◌}
use mathlib.Core.Path.{◌≡◌, refl, sym, ap, subst, ◌∙◌}
use mathlib.Core.Logic.{◌↔◌}
use mathlib.Core.Bool.{Bool, true, ◌&&◌}
use mathlib.Core.List.{List, [], ◌∷◌, ◌++◌}
use native.Mathlib.Omega.{arith}
use lib.Dec.{eqb}
use lib.ListN.{length, take, drop, take-append-drop}
use lib.Seq.{drop-drop}
use lib.Pointwise.{pointwise, pointwise_decides, bytes_decides}
use Rattle.std.specs.Simd.{first_chunks}
use Rattle.std.specs.Bool.{Decides, one_answer}
use Rattle.outcomes.proofs.Tests.{and_true}
use Rattle.same_bytes.specs.Same.{same}

-- the test of `==` on two slices
pub pairs_same : (x y : List ℕ) → pointwise eqb x y ≡ same x y
unfolding same
pairs_same [] [] = refl
pairs_same [] (b ∷ y) = refl
pairs_same (a ∷ x) [] = refl
pairs_same (a ∷ x) (b ∷ y) = ap (λ (t : Bool). eqb a b && t) (pairs_same x y)

pub same_exactly : (x y : List ℕ) → (same x y ≡ true) ↔ (x ≡ y)
same_exactly x y = subst (λ (t : Bool). (t ≡ true) ↔ (x ≡ y)) (pairs_same x y) (bytes_decides x y)

-- ---- in blocks

-- the blocks, and the bytes behind them
abbrev pub joined : List (List ℕ) → List ℕ → List ℕ
joined [] end = end
joined (block ∷ blocks) end = block ++ joined blocks end

joined_is : (n k : ℕ) (x : List ℕ) → joined (first_chunks n k x) (drop (k * n) x) ≡ x
joined_is n zero x = let e : 0 * n ≡ 0 = omega arith in ap (λ (m : ℕ). drop m x) e
joined_is n (suc k) x =
    let e : suc k * n ≡ n + k * n = omega arith in
    ap (λ (end : List ℕ). take n x ++ joined (first_chunks n k (drop n x)) end) (ap (λ (m : ℕ). drop m x) e ∙ sym (drop-drop (k * n) n x))
    ∙ ap (λ (rest : List ℕ). take n x ++ rest) (joined_is n k (drop n x))
    ∙ take-append-drop n x

-- the test of the blocks, and then of the bytes behind them
pub blocks_same : (n : ℕ) (x y : List ℕ)
    → (pointwise (pointwise eqb) (first_chunks n (length x / n) x) (first_chunks n (length y / n) y)
    && pointwise eqb (drop (length x / n * n) x) (drop (length y / n * n) y))
    ≡ same x y
blocks_same n x y = one_answer _ (same x y) (parts, whole) (same_exactly x y)
  where
    blocks : List ℕ → List (List ℕ)
    blocks z = first_chunks n (length z / n) z

    end : List ℕ → List ℕ
    end z = drop (length z / n * n) z

    is_block : (b d : List (List ℕ)) → Decides (pointwise (pointwise eqb) b d) (b ≡ d)
    is_block = pointwise_decides bytes_decides

    parts : (pointwise (pointwise eqb) (blocks x) (blocks y) && pointwise eqb (end x) (end y)) ≡ true → x ≡ y
    parts e =
        let p = (and_true (pointwise (pointwise eqb) (blocks x) (blocks y)) (pointwise eqb (end x) (end y))).0 e in
        let b = (is_block (blocks x) (blocks y)).0 p.0 in
        let l = (bytes_decides (end x) (end y)).0 p.1 in
        sym (joined_is n (length x / n) x) ∙ (λ i. joined (b i) (l i)) ∙ joined_is n (length y / n) y

    whole : x ≡ y → (pointwise (pointwise eqb) (blocks x) (blocks y) && pointwise eqb (end x) (end y)) ≡ true
    whole e =
        (and_true (pointwise (pointwise eqb) (blocks x) (blocks y)) (pointwise eqb (end x) (end y))).1
        ((is_block (blocks x) (blocks y)).1 (ap blocks e), (bytes_decides (end x) (end y)).1 (ap end e))

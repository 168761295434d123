-- Laws of a string's characters: where the two bytes of one stand, and that nothing stands past the end.
-- Assumes nothing.
use Prim.Native.Nat.{ℕ, zero, suc, ◌+◌, ◌*◌, ◌/◌, ◌<◌, ◌≤◌}
use mathlib.Core.Path.{◌≡◌, refl}
use mathlib.Core.List.{List, [], ◌∷◌}
use native.Mathlib.Omega.{arith}
use lib.ListN.{length, get_or, get_or-eq_default}
use Rattle.characters.specs.Strings.{pairs, char}

pub length_pairs : (s : List ℕ) → length (pairs s) ≡ length s / 2
length_pairs [] = refl
length_pairs (h ∷ []) = refl
length_pairs (h ∷ l ∷ s) = omega (arith, length_pairs s)

-- the two bytes of a two-byte character
pub char_pairs : (s : List ℕ) (i : ℕ) → i < length s / 2 → char (pairs s) i ≡ get_or s (i * 2) 0 * 256 + get_or s (i * 2 + 1) 0
unfolding char
char_pairs [] i q = absurd (omega arith)
char_pairs (h ∷ []) i q = absurd (omega arith)
char_pairs (h ∷ l ∷ s) zero q = refl
char_pairs (h ∷ l ∷ s) (suc i) q =
    let e : suc i * 2 + 1 ≡ suc (suc (i * 2 + 1)) = omega arith in
    let f : suc i * 2 ≡ suc (suc (i * 2)) = omega arith in
    rw (e, f) (char_pairs s i (omega arith))

pub char_past : (l : List ℕ) (i : ℕ) → length l ≤ i → char l i ≡ 0
unfolding char
char_past l i h = get_or-eq_default l 0 h

-- a code that is not 0 stands within the string
pub char_within : (l : List ℕ) (i : ℕ) → 0 < char l i → i < length l
unfolding char
char_within [] i h = absurd (omega arith)
char_within (c ∷ cs) zero h = omega arith
char_within (c ∷ cs) (suc i) h = omega (arith, char_within cs i h)

-- A place below the count is within the bytes, and what is read there is the character by the law of its two bytes; past the count there is none.
use Prim.Native.Nat.{ℕ, ◌<◌, ◌/◌}
use native.Mathlib.Omega.{arith}
use mathlib.Core.Path.{◌≡◌, sym}
use mathlib.Core.Bool.{Bool, true}
use mathlib.Core.List.{List}
use lib.ListN.{length}
use Rattle.characters.specs.Strings.{characters, char}
use Rattle.bigendian.proofs.Laws.{number_2}
use Rattle.characters.proofs.Laws.{length_pairs, char_pairs, char_past}
use Rattle.characters.proofs.Characters.code.Goals as goal

-- the character is one of two bytes, both within the string
in_pairs : (wide : Bool) (text : List ℕ) (n at : ℕ) → wide ≡ true → n ≡ length (characters wide text) → at < n → at < length text / 2
in_pairs wide text n at w e l = omega (arith, rw (w, length_pairs) at e)

pub returns-then-count-at : goal.returns-then-count-at
returns-then-count-at c = sym (char_past _ _ (omega (arith, c.count.ensures)))

pub overflow_mul-at : goal.overflow_mul-at
overflow_mul-at c = omega (arith, in_pairs _ _ _ _ c.if-self.true c.count.ensures c.if-count-at.false)

pub read_u16-requires : goal.read_u16-requires
read_u16-requires c = omega (arith, in_pairs _ _ _ _ c.if-self.true c.count.ensures c.if-count-at.false)

pub returns-then-self : goal.returns-then-self
returns-then-self c =
    let within = in_pairs _ _ _ _ c.if-self.true c.count.ensures c.if-count-at.false in
    rw (c.if-self.true, char_pairs _ _ within, ← number_2) c.read_u16.ensures

pub returns : goal.returns
unfolding char
returns c = rw c.if-self.false c.widened.ensures

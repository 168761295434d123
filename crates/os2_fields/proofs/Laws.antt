-- Laws of a field's number and value.
-- Assumes nothing.
use Prim.Native.Nat.{ℕ, ◌<◌, ◌^◌}
use mathlib.Core.Path.{◌≡◌}
use mathlib.Core.Logic.{inl, inr}
use mathlib.Core.Bool.{true, false}
use mathlib.Core.List.{List}
use native.Mathlib.Omega.{arith}
use borrow.Author.Tests.{lt-ltb}
use lib.IntN.{pos, ◌-ℤ◌}
use lib.ListN.{get_or}
use mir.Syntax.{w64}
use mir.Val.{SFits, to_z}
use mir.Facts.{to_z_pos}
use Rattle.bigendian.specs.Numbers.{number}
use Rattle.bigendian.proofs.Laws.{number_1}
use Rattle.os2_fields.specs.declared.catalogue.Field.{Field}
use Rattle.os2_fields.specs.Reading.{Wide}
use Rattle.os2_fields.specs.Fields.{raw_in, signed_of, value_in}

-- a number of up to 32 bits, read as an i64
pub to_z_small : (x : ℕ) → x < 2 ^ 32 → to_z w64 x ≡ pos x
to_z_small x h = to_z_pos w64 (omega arith)

-- a 16-bit number less 65536 is an i64
pub less_fits : (x : ℕ) → x < 65536 → SFits w64 (pos x -ℤ pos 65536)
less_fits x h = record { sfits = simp (lt-ltb x 65536 h) (omega arith) }

-- a width that is neither 1 nor 2 is 4
pub four : {n : ℕ} → Wide n → (n ≡ 1 → ⊥) → (n ≡ 2 → ⊥) → n ≡ 4
four (inl e) a b = absurd (a e)
four (inr (inl e)) a b = absurd (b e)
four (inr (inr e)) a b = e

-- ---- a field's value, by its sign

module _ (b : List ℕ) (f : Field) where
  pub value_signed : f.signed ≡ true → f.width ≡ 2 → value_in b f ≡ signed_of 2 (number 2 b f.offset)
  unfolding value_in raw_in
  value_signed s w = simp (s, w)

  pub value_plain : f.signed ≡ false → value_in b f ≡ pos (raw_in b f)
  unfolding value_in
  value_plain s = simp s

  pub raw_byte : f.width ≡ 1 → raw_in b f ≡ get_or b f.offset 0
  unfolding raw_in
  raw_byte w = simp w (number_1 b f.offset)

  pub raw_word : f.width ≡ 2 → raw_in b f ≡ number 2 b f.offset
  unfolding raw_in
  raw_word w = simp w

  pub raw_long : f.width ≡ 4 → raw_in b f ≡ number 4 b f.offset
  unfolding raw_in
  raw_long w = simp w

-- A figure of at most 65,535 and one more digit stay far below what a u32 holds.
use native.Mathlib.Omega.{arith}
use Rattle.characters.proofs.Digits.{digit_is}
use Rattle.characters.proofs.with_digit.Goals as goal

pub overflow_sub-code : goal.overflow_sub-code
overflow_sub-code c = omega (arith, (digit_is c.args.code).0 c.requires.0)

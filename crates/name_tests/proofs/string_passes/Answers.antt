-- The sum is the definition's, of the numbers that were read; it cannot wrap.
use Prim.Native.Nat.{◌+◌}
use native.Mathlib.Omega.{arith}
use Rattle.bigendian.specs.Numbers.{Bytes}
use Rattle.name_layout.proofs.Layouts.{word_lt}
use Rattle.name_tests.specs.Tests.{string_passes}
use Rattle.name_tests.proofs.string_passes.Goals as goal

pub overflow_add-result : goal.overflow_add-result
overflow_add-result c = let t = c.args.table.now.bytes.now in
    let b : Bytes t = c.args.table.now.each in
    record { fits = omega (arith, word_lt t b 4, word_lt t b (c.args.at + 2)) }

pub returns : goal.returns
unfolding string_passes
returns c = rw (← c.string_start-start.ensures, ← c.string_length.ensures)

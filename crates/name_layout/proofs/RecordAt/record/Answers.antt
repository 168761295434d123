-- The six numbers that were read are the record's.
use Prim.Native.Nat.{◌+◌}
use mathlib.Core.Path.{◌≡◌}
use native.Mathlib.Omega.{arith}
use Rattle.name_layout.specs.Layout.{record_at, text_at}
use Rattle.name_layout.proofs.RecordAt.record.Goals as goal

pub returns : goal.returns
returns c = let i = c.args.self.now.i in
    let e : text_at i + 2 ≡ record_at i + 10 = omega arith in
    rw (e, c.part.ensures, c.part-2.ensures, c.part-3.ensures)
    (rw (c.part-4.ensures, c.part-5.ensures, c.part-6.ensures))

-- The test on the version is that of the definition.
use Prim.Native.Nat.{◌<◌, ◌≤◌}
use mathlib.Core.Logic.{inl, inr}
use native.Mathlib.Nat.{le_trans}
use native.Mathlib.Omega.{arith}
use lib.ListN.{length}
use borrow.Author.Tests.{lt-ltb, le-ltb}
use Rattle.level.specs.Sizes.{table_size}
use Rattle.level.proofs.Laws.{size_least, size_rises}
use Rattle.os2_fields.specs.Fields as fields
use Rattle.os2_fields.proofs.optical_size.Goals as goal

pub version-requires : goal.version-requires
version-requires c = omega (arith, size_least (fields.version c.args.table.now), c.requires.sized)

pub returns-then-version-since : goal.returns-then-version-since
returns-then-version-since c = let old : fields.version c.args.table.now < 5 = omega (arith, c.version.ensures, c.requires.came) in
    rw (lt-ltb _ _ old)

pub word-requires : goal.word-requires
word-requires c =
    let given = c.requires in
    let new : 5 ≤ fields.version c.args.table.now = omega (arith, c.if-version-since.false, c.version.ensures, c.requires.came) in
    let long : table_size 5 ≤ length c.args.table.now = le_trans (size_rises 5 _ new) given.sized in
    record {
      lies = record { inside = omega (arith, given.inside, given.two, long); sound = record { wide = inr (inl given.two); signs = λ e. given.two } };
      two = given.two;
    }

pub returns : goal.returns
returns c = let new : 5 ≤ fields.version c.args.table.now = omega (arith, c.if-version-since.false, c.version.ensures, c.requires.came) in
    rw (le-ltb _ _ new) c.word.ensures

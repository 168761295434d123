-- A table that ends before the tags start ends before they end.
use mathlib.Core.Path.{sym, ◌∙◌}
use Prim.Native.Nat.{◌<◌}
use native.Mathlib.Omega.{arith}
use lib.ListN.{length}
use borrow.Author.Tests.{lt-ltb}
use Rattle.name_layout.specs.Layout.{tags_end}
use Rattle.name_tests.specs.Tests.{tags_pass_end}
use Rattle.name_tests.proofs.tags_pass.Goals as goal

pub returns-then-table-tags_start : goal.returns-then-table-tags_start
unfolding tags_pass_end
returns-then-table-tags_start c = let t = c.args.table.now.bytes.now in
    let h : length t < tags_end t = omega arith in
    lt-ltb _ _ c.if-table-tags_start.true ∙ sym (lt-ltb _ _ h)

pub returns-else-table-tags_start : goal.returns-else-table-tags_start
unfolding tags_pass_end
returns-else-table-tags_start c = rw (← c.tags_end.ensures)

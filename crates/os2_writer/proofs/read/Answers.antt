use native.Mathlib.Numerals.{add-one}
use lib.ListN.{length-set}
use Rattle.os2_fields.specs.Fields.{version}
use Rattle.os2_store.proofs.Signs.{kept}
use Rattle.os2_store.proofs.Steps.{entry_is}
use Rattle.os2_writer.proofs.Steps.{readable, read_next, comes_before}
use borrow.Author.Rules.{rules}
use Prim.Native.Nat.{◌≤◌}
use mathlib.Core.Path.{◌∙◌}
use Rattle.os2_fields.specs.Catalogue.{field_of}
use Rattle.level.specs.Levels.{newest}
use Rattle.os2_acceptance.proofs.Accepting.{open_two}
use Rattle.os2_writer.proofs.read.Goals as goal

-- the version has the field
here : (c : goal.Else-version-from) → (field_of c.loop-k.k).since ≤ version c.args.table.now
here c = rw (c.from.ensures, entry_is _ c.loop-k.k c.entries-fields.ensures, c.version-version.ensures) at c.if-version-from.false

pub version-version-requires : goal.version-version-requires
version-version-requires c = open_two newest _ c.requires

pub returns-then-version-from : goal.returns-then-version-from
returns-then-version-from c =
    let lacks = rw (c.from.ensures, entry_is _ c.loop-k.k c.entries-fields.ensures, c.version-version.ensures) at c.if-version-from.true in
    λ j i. c.loop-k.invariant.1 j (comes_before _ j c.loop-k.k i lacks c.loop-k-test.true)

pub value-requires : goal.value-requires
value-requires c = rw (entry_is _ c.loop-k.k c.entries-fields.ensures) (readable _ c.requires _ c.loop-k-test.true (here c))

pub loop-k-preserved : goal.loop-k-preserved
loop-k-preserved c = let l = c.loop-k in
    let v = rw (entry_is _ l.k c.entries-fields.ensures) at c.value.ensures in
    (simp length-set l.invariant.0, rw add-one (read_next _ l.numbers l.k _ (rw l.invariant.0 c.loop-k-test.true) l.invariant.1 (kept _ (search rules) ∙ v)))

-- What is not refused has its place: each string behind those before it, and each record in its row.
use mathlib.Core.Path.{◌≡◌, refl, sym, ◌∙◌}
use native.Mathlib.Omega.{arith}
use lib.ListN.{length}
use Rattle.name_store.specs.Entries.{text_for, offset_for}
use Rattle.name_store.proofs.Stores.{front_placed, placed, none_stored, stored_more, stored_all}
use Rattle.name_store.proofs.store.Goals as goal

pub put_front-requires : goal.put_front-requires
put_front-requires c = front_placed _ _ _ c.requires

pub loop-i-init : goal.loop-i-init
unfolding offset_for
loop-i-init c = (c.put_front.ensures ∙ sym (none_stored _ _ _), refl)

pub overflow_add-strings-in-loop-i : goal.overflow_add-strings-in-loop-i
overflow_add-strings-in-loop-i c = let p = placed _ _ _ c.requires c.loop-i.i c.loop-i-test.true c.loop-i.invariant.1 in omega arith

pub copy-requires : goal.copy-requires
copy-requires c = let p = placed _ _ _ c.requires c.loop-i.i c.loop-i-test.true c.loop-i.invariant.1 in (omega arith, p.text)

pub overflow_cast-offset : goal.overflow_cast-offset
overflow_cast-offset c = let p = placed _ _ _ c.requires c.loop-i.i c.loop-i-test.true c.loop-i.invariant.1 in omega arith

pub put_record-requires : goal.put_record-requires
put_record-requires c = let p = placed _ _ _ c.requires c.loop-i.i c.loop-i-test.true c.loop-i.invariant.1 in omega arith

pub overflow_add-offset : goal.overflow_add-offset
overflow_add-offset c = let p = placed _ _ _ c.requires c.loop-i.i c.loop-i-test.true c.loop-i.invariant.1 in omega arith

pub loop-i-preserved : goal.loop-i-preserved
unfolding text_for
loop-i-preserved c = stored_more _ _ _ c.requires c.loop-i.i c.loop-i-test.true c.loop-i.invariant c.copy.ensures c.put_record.ensures

pub returns : goal.returns
returns c =
    let e : c.loop-i.i ≡ length c.args.entries.now = omega arith in
    rw e at c.loop-i.invariant.0 ∙ stored_all _ _ _ c.requires

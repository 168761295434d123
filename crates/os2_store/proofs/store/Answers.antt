use Rattle.bigendian.specs.Numbers.{stored}
use Rattle.os2_store.specs.Writing.{number_for, code_for, image}
use Rattle.os2_fields.specs.Catalogue.{field_count, field_of}
use native.Mathlib.Nat.{le_of_lt}
use native.Mathlib.Numerals.{add-one}
use Rattle.os2_store.proofs.Images.{image_has}
use Rattle.os2_store.proofs.Signs.{kept}
use Rattle.os2_fields.proofs.Tiling.{sound_is}
use Rattle.os2_store.proofs.Steps.{entry_is, fit_at, storable, image_stop}
use Prim.Native.Nat.{suc}
use mathlib.Core.Path.{◌≡◌, refl, sym, ◌∙◌}
use native.Mathlib.Omega.{arith}
use Rattle.os2_store.proofs.store.Goals as goal

pub loop-k-init : goal.loop-k-init
unfolding image
loop-k-init c = refl

pub returns-then-version-from : goal.returns-then-version-from
returns-then-version-from c = let l = c.loop-k in
    let lacks = rw (c.from.ensures, entry_is _ l.k c.entries-fields.ensures) at c.if-version-from.true in
    l.invariant ∙ sym (image_stop _ _ _ l.k field_count (le_of_lt c.loop-k-test.true) (omega arith) lacks)

pub code-requires : goal.code-requires
code-requires c =
    let here = rw (c.from.ensures, entry_is _ c.loop-k.k c.entries-fields.ensures) at c.if-version-from.false in
    rw (kept (number_for c.args.numbers.now c.loop-k.k) (record { sfits = omega arith }), entry_is _ c.loop-k.k c.entries-fields.ensures)
    (sound_is _ c.loop-k-test.true, fit_at _ _ c.requires.fit _ c.loop-k-test.true here)

pub put-requires : goal.put-requires
put-requires c =
    let l = c.loop-k in
    let here = rw (c.from.ensures, entry_is _ c.loop-k.k c.entries-fields.ensures) at c.if-version-from.false in
    rw (c.code.ensures, kept (number_for c.args.numbers.now l.k) (record { sfits = omega arith }), entry_is _ l.k c.entries-fields.ensures)
    (storable _ _ c.requires.fit l.room (rw l.auto.room c.requires.long) l.k c.loop-k-test.true here)

-- the room after the store is that of the next field
pub loop-k-preserved : goal.loop-k-preserved
loop-k-preserved c =
    let l = c.loop-k in
    let here = rw (c.from.ensures, entry_is _ c.loop-k.k c.entries-fields.ensures) at c.if-version-from.false in
    let p : c.put.new.room ≡ stored (field_of l.k).width l.room (field_of l.k).offset (code_for c.args.numbers.now l.k) =
    rw (c.code.ensures, kept (number_for c.args.numbers.now l.k) (record { sfits = omega arith }), entry_is _ l.k c.entries-fields.ensures) at c.put.ensures in
    let stores : c.put.new.room ≡ image c.args.version c.args.numbers.now c.args.room.now (suc l.k) = p ∙ rw (image_has _ _ c.args.room.now l.k here, l.invariant) in
    rw add-one stores

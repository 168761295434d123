use Rattle.os2_store.specs.Writing.{number_for, has, misfit}
use Rattle.os2_store.proofs.Signs.{kept}
use Rattle.outcomes.specs.Outcomes.{carrying}
use Rattle.outcomes.proofs.Laws.{when_none, when_some, first_none, first_more, first_stop}
use Rattle.os2_fields.specs.Catalogue.{field_count}
use Rattle.os2_fields.proofs.Tiling.{sound_is}
use Rattle.os2_store.proofs.Steps.{entry_is}
use mathlib.Core.Path.{◌≡◌, refl, sym, ◌∙◌}
use native.Mathlib.Omega.{arith}
use Rattle.os2_store.proofs.lowest_misfit.Goals as goal

pub loop-k-init : goal.loop-k-init
loop-k-init c = first_none _

pub misfits-requires : goal.misfits-requires
misfits-requires c = rw (entry_is _ c.loop-k.k c.entries-fields.ensures) (sound_is _ c.loop-k-test.true)

pub returns-then-misfits : goal.returns-then-misfits
unfolding misfit has
returns-then-misfits c =
    let l = c.loop-k in
    let t : c.misfits.result ≡ misfit c.args.version c.args.numbers.now c.loop-k.k =
    rw (kept (number_for c.args.numbers.now c.loop-k.k) (record { sfits = omega arith }), entry_is _ c.loop-k.k c.entries-fields.ensures) at c.misfits.ensures in
    sym (first_stop _ l.k field_count c.loop-k-test.true l.invariant ((when_some _ (carrying 8 l.k) _).1 (sym t ∙ c.if-misfits.true, refl)))

pub loop-k-preserved : goal.loop-k-preserved
unfolding misfit has
loop-k-preserved c =
    let t : c.misfits.result ≡ misfit c.args.version c.args.numbers.now c.loop-k.k =
    rw (kept (number_for c.args.numbers.now c.loop-k.k) (record { sfits = omega arith }), entry_is _ c.loop-k.k c.entries-fields.ensures) at c.misfits.ensures in
    first_more _ _ c.loop-k.invariant ((when_none _ _).1 (sym t ∙ c.if-misfits.false))

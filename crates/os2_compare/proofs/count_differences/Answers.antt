-- Of each field the two answers are the catalogue's.
use Rattle.std.proofs.Common.{◌≡◌, length, sym, ap, ◌∙◌, arith}
use Rattle.os2_fields.specs.Catalogue.{field_count}
use Rattle.os2_compare.specs.Differences.{answer_in, differences}
use Rattle.os2_compare.proofs.Lists.{entry_is, nothing_yet, counts_next, passes_over}
use Rattle.os2_compare.proofs.count_differences.Goals.{then-differ, else-differ}
use Rattle.os2_compare.proofs.count_differences.Goals as goal

pub loop-f-init : goal.loop-f-init
loop-f-init c = (omega arith, sym (ap length (nothing_yet _)))

pub answer-requires : goal.answer-requires
answer-requires c = record { accepted = c.requires.on_left; number = c.loop-f.f-index; inside = c.loop-f-test.true; is = entry_is _ _ c.entries-fields.ensures }

pub answer-requires-in-loop-f : goal.answer-requires-in-loop-f
answer-requires-in-loop-f c = record { accepted = c.requires.on_right; number = c.loop-f.f-index; inside = c.loop-f-test.true; is = entry_is _ _ c.entries-fields.ensures }

pub loop-f-preserved : goal.loop-f-preserved
loop-f-preserved c =
    let l = c.loop-f.invariant in
    let p = c.answer.ensures ∙ ap (answer_in _ _) (entry_is _ _ c.entries-fields.ensures) in
    let q = c.answer-in-loop-f.ensures ∙ ap (answer_in _ _) (entry_is _ _ c.entries-fields.ensures) in
    elim c.if-differ.branch [
      | then-differ w ↦ (omega (arith, w.count-is), w.count-is ∙ counts_next _ _ _ _ p q (sym c.differ.ensures ∙ w.if-differ.true) l.1)
      | else-differ w ↦
          (omega (arith, w.count-is), w.count-is ∙ rw (passes_over _ _ _ _ p q (sym c.differ.ensures ∙ w.if-differ.false)) l.1)
    ]

pub returns : goal.returns
unfolding differences
returns c = let e : c.loop-f.f-index ≡ field_count = omega (arith, c.loop-f-test.false, c.loop-f.auto.f-index-end) in rw (← e) c.loop-f.invariant.1

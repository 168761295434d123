-- While rows are left to write there is room for one, since there are no more differences than rows.
use Rattle.std.proofs.Common.{rules, ℕ, List, ◌^◌, ◌≡◌, ◌≤◌, ◌<◌, length, refl, sym, ap, ◌∙◌, arith}
use Rattle.os2_fields.specs.Catalogue.{field_count}
use Rattle.comparing.specs.Lists.{list_below}
use Rattle.comparing.specs.Rooms.{rows_of}
use Rattle.comparing.proofs.Lists.{shorter}
use Rattle.comparing.proofs.Rooms.{front_none}
use Rattle.os2_compare.specs.Differences.{answer_in, difference_at, differences}
use Rattle.os2_compare.proofs.Lists.{entry_is, nothing_yet, all_done, counts_next, writes_next, passes_over}
use Rattle.os2_compare.proofs.write_differences.Goals.{then-differ, else-differ}
use Rattle.os2_compare.proofs.write_differences.Goals as goal

-- so many differences below a field are at most all
some_below : (L : ℕ) (left right : List ℕ) {k done count : ℕ} → k ≤ field_count → done ≡ length (list_below (difference_at L left right) k) →
    count ≡ length (differences L left right) → done ≤ count
unfolding differences
some_below L left right {k} i d c = omega (arith, shorter (difference_at L left right) k field_count i)

pub loop-k-init : goal.loop-k-init
unfolding rows_of
loop-k-init c = (sym (ap length (nothing_yet _)), refl, rw (nothing_yet _) (front_none _))

pub answer-on_left-requires : goal.answer-on_left-requires
answer-on_left-requires c = record { accepted = c.requires.0.on_left; number = c.loop-k.k; inside = c.loop-k-test.true; is = entry_is _ _ c.entries-fields.ensures }

pub answer-on_right-requires : goal.answer-on_right-requires
answer-on_right-requires c = record { accepted = c.requires.0.on_right; number = c.loop-k.k; inside = c.loop-k-test.true; is = entry_is _ _ c.entries-fields.ensures }

pub overflow_mul-done : goal.overflow_mul-done
overflow_mul-done c =
    let few = some_below _ _ _ c.loop-k.auto.k-end c.loop-k.invariant.0 c.requires.1 in
    let fits : length c.args.rows.now < 2 ^ 64 = search rules in
    omega (arith, few, c.requires.2, fits)

pub put-requires : goal.put-requires
put-requires c = let few = some_below _ _ _ c.loop-k.auto.k-end c.loop-k.invariant.0 c.requires.1 in omega (arith, few, c.if-done-count.false, c.requires.2, c.loop-k.invariant.1)

pub overflow_add-done : goal.overflow_add-done
overflow_add-done c = let few = some_below _ _ _ c.loop-k.auto.k-end c.loop-k.invariant.0 c.requires.1 in omega (arith, few, c.if-done-count.false)

pub loop-k-preserved : goal.loop-k-preserved
loop-k-preserved c =
    let l = c.loop-k.invariant in
    let p = c.answer-on_left.ensures ∙ ap (answer_in _ _) (entry_is _ _ c.entries-fields.ensures) in
    let q = c.answer-on_right.ensures ∙ ap (answer_in _ _) (entry_is _ _ c.entries-fields.ensures) in
    let few = some_below _ _ _ c.loop-k.auto.k-end l.0 c.requires.1 in
    elim c.if-differ.branch [
      | then-differ w ↦
          let e = sym c.differ.ensures ∙ w.if-differ.true in
          let x = writes_next _ _ _ _ p q _ e l.0 (omega (arith, few, c.if-done-count.false, c.requires.2)) l.2 (w.rows-is ∙ w.put.ensures) in
          (w.done-is ∙ counts_next _ _ _ _ p q e l.0, x.0, x.1)
      | else-differ w ↦
          let e = passes_over _ _ _ _ p q (sym c.differ.ensures ∙ w.if-differ.false) in
          (w.done-is ∙ rw e l.0, ap length w.rows-is ∙ l.1, w.rows-is ∙ rw e l.2)
    ]

pub returns-then-done-count : goal.returns-then-done-count
unfolding differences
returns-then-done-count c = let l = c.loop-k.invariant in
    rw (← all_done (difference_at _ _ _) c.loop-k.auto.k-end l.0 c.requires.1 (omega (arith, c.if-done-count.true))) l.2

pub returns-after-loop-k : goal.returns-after-loop-k
unfolding differences
returns-after-loop-k c =
    let e : c.loop-k.k ≡ field_count = omega (arith, c.loop-k-test.false, c.loop-k.auto.k-end) in rw (← e) c.loop-k.invariant.2

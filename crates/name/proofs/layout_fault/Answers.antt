-- Each test on the way settles its line of the definition; what a test leaves is what the next one needs.
use mathlib.Core.Path.{◌≡◌, refl, sym, ◌∙◌}
use mathlib.Core.Bool.{Bool, false}
use Rattle.outcomes.proofs.Laws.{when_none, when_some, here, past}
use Rattle.name_tests.proofs.Tests.{long, records_within, tags_within}
use Rattle.name.specs.Acceptance.{layout_fault}
use Rattle.name.proofs.layout_fault.Goals as goal

-- a test that was answered "no" fails
failed : {answer test : Bool} → answer ≡ test → answer ≡ false → test ≡ false
failed e f = sym e ∙ f

pub returns-then-too_short : goal.returns-then-too_short
unfolding layout_fault
returns-then-too_short c = sym (here _ _ _ (sym c.too_short.ensures ∙ c.if-too_short.true))

pub invariant_of-table-clause-header : goal.invariant_of-table-clause-header
invariant_of-table-clause-header c = (long _).0 (failed c.too_short.ensures c.if-too_short.false)

pub returns-then-other_format : goal.returns-then-other_format
unfolding layout_fault
returns-then-other_format c =
    sym (past _ _ _ (failed c.too_short.ensures c.if-too_short.false) ∙ here _ _ _ (sym c.other_format.ensures ∙ c.if-other_format.true))

pub returns-then-records_pass : goal.returns-then-records_pass
unfolding layout_fault
returns-then-records_pass c =
    sym (past _ _ _ (failed c.too_short.ensures c.if-too_short.false)
    ∙ past _ _ _ (failed c.other_format.ensures c.if-other_format.false)
    ∙ here _ _ _ (sym c.records_pass.ensures ∙ c.if-records_pass.true))

pub returns-then-tags_pass : goal.returns-then-tags_pass
unfolding layout_fault
returns-then-tags_pass c =
    sym (past _ _ _ (failed c.too_short.ensures c.if-too_short.false)
    ∙ past _ _ _ (failed c.other_format.ensures c.if-other_format.false)
    ∙ past _ _ _ (failed c.records_pass.ensures c.if-records_pass.false)
    ∙ here _ _ _ (sym c.tags_pass.ensures ∙ c.if-tags_pass.true))

pub invariant_of-storage_misplaced : goal.invariant_of-storage_misplaced
invariant_of-storage_misplaced c =
    record {
      framed =
          record {
            front = (long _).0 (failed c.too_short.ensures c.if-too_short.false);
            records = (records_within _).0 (failed c.records_pass.ensures c.if-records_pass.false);
            tags = (tags_within _).0 (failed c.tags_pass.ensures c.if-tags_pass.false);
          };
    }

pub returns-then-storage_misplaced : goal.returns-then-storage_misplaced
unfolding layout_fault
returns-then-storage_misplaced c =
    sym (past _ _ _ (failed c.too_short.ensures c.if-too_short.false)
    ∙ past _ _ _ (failed c.other_format.ensures c.if-other_format.false)
    ∙ past _ _ _ (failed c.records_pass.ensures c.if-records_pass.false)
    ∙ past _ _ _ (failed c.tags_pass.ensures c.if-tags_pass.false)
    ∙ (when_some _ _ _).1 (sym c.storage_misplaced.ensures ∙ c.if-storage_misplaced.true, refl))

pub returns : goal.returns
unfolding layout_fault
returns c =
    sym (past _ _ _ (failed c.too_short.ensures c.if-too_short.false)
    ∙ past _ _ _ (failed c.other_format.ensures c.if-other_format.false)
    ∙ past _ _ _ (failed c.records_pass.ensures c.if-records_pass.false)
    ∙ past _ _ _ (failed c.tags_pass.ensures c.if-tags_pass.false)
    ∙ (when_none _ _).1 (sym c.storage_misplaced.ensures ∙ c.if-storage_misplaced.false))

-- The first test that holds decides.
use mathlib.Core.Path.{sym, ◌∙◌}
use Rattle.name_store.specs.Writing.{language_bad}
use Rattle.name_store.proofs.Faults.{behind_none, behind_equal, behind_below, behind_above, fault_pool, fault_language, fault_order, is_far, is_near}
use Rattle.name_store.proofs.check.Goals as goal
use Rattle.name_store.proofs.check.Goals.{in-Some+else-key-last, in_default}

pub returns-then-passes_pool-clause-fault : goal.returns-then-passes_pool-clause-fault
returns-then-passes_pool-clause-fault c = sym (fault_pool _ _ _ _ _ (sym c.passes_pool.ensures ∙ c.if-passes_pool.true))

pub returns-then-forbidden-clause-fault : goal.returns-then-forbidden-clause-fault
unfolding language_bad
returns-then-forbidden-clause-fault c =
    let pool = sym c.passes_pool.ensures ∙ c.if-passes_pool.false in
    sym (fault_language _ _ _ _ _ pool (sym c.forbidden.ensures ∙ c.if-forbidden.true))

pub returns-then-key-last-2-clause-fault : goal.returns-then-key-last-2-clause-fault
unfolding language_bad
returns-then-key-last-2-clause-fault c =
    let pool = sym c.passes_pool.ensures ∙ c.if-passes_pool.false in
    let language = sym c.forbidden.ensures ∙ c.if-forbidden.false in
    sym (fault_order _ _ _ _ _ pool language ∙ behind_equal _ _ _ c.in-Some.is (sym c.key_of-key.ensures ∙ c.if-key-last-2.true))

pub returns-then-key-last-clause-fault : goal.returns-then-key-last-clause-fault
unfolding language_bad
returns-then-key-last-clause-fault c =
    let pool = sym c.passes_pool.ensures ∙ c.if-passes_pool.false in
    let language = sym c.forbidden.ensures ∙ c.if-forbidden.false in
    sym (fault_order _ _ _ _ _ pool language
    ∙ behind_below _ _ _ c.in-Some.is (rw c.key_of-key.ensures at c.if-key-last.true) (λ e. c.if-key-last-2.false (c.key_of-key.ensures ∙ e)))

pub returns-then-offset-gt-LAST_OFFSET-clause-fault : goal.returns-then-offset-gt-LAST_OFFSET-clause-fault
unfolding language_bad
returns-then-offset-gt-LAST_OFFSET-clause-fault c =
    let pool = sym c.passes_pool.ensures ∙ c.if-passes_pool.false in
    let language = sym c.forbidden.ensures ∙ c.if-forbidden.false in
    sym (fault_order _ _ _ _ _ pool language ∙ elim c.match-before.branch [
      | in-Some+else-key-last w ↦ behind_above _ _ _ w.in-Some.is (rw c.key_of-key.ensures at w.if-key-last.false)
      | in_default w ↦ behind_none _ _ _ w.in_default.is
    ] ∙ is_far _ _ c.if-offset-gt-LAST_OFFSET.true)

pub returns-clause-fault : goal.returns-clause-fault
unfolding language_bad
returns-clause-fault c =
    let pool = sym c.passes_pool.ensures ∙ c.if-passes_pool.false in
    let language = sym c.forbidden.ensures ∙ c.if-forbidden.false in
    sym (fault_order _ _ _ _ _ pool language ∙ elim c.match-before.branch [
      | in-Some+else-key-last w ↦ behind_above _ _ _ w.in-Some.is (rw c.key_of-key.ensures at w.if-key-last.false)
      | in_default w ↦ behind_none _ _ _ w.in_default.is
    ] ∙ is_near _ _ c.if-offset-gt-LAST_OFFSET.false)

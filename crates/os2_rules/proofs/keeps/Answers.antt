-- Each return is where the chain of tests stops.
use mathlib.Core.Path.{sym, ◌∙◌}
use Rattle.os2_rules.proofs.Laws.{kept_chain}
use Rattle.os2_rules.proofs.keeps.Goals as goal

pub returns-then-weight_broken : goal.returns-then-weight_broken
returns-then-weight_broken c = rw (kept_chain _) (simp (sym c.weight_broken.ensures ∙ c.if-weight_broken.true))

pub returns-then-width_broken : goal.returns-then-width_broken
returns-then-width_broken c = rw (kept_chain _) (simp ((sym c.weight_broken.ensures ∙ c.if-weight_broken.false), sym c.width_broken.ensures ∙ c.if-width_broken.true))

pub returns-then-fstype_broken : goal.returns-then-fstype_broken
returns-then-fstype_broken c =
    rw (kept_chain _)
    (simp (
      (sym c.weight_broken.ensures ∙ c.if-weight_broken.false),
      (sym c.width_broken.ensures ∙ c.if-width_broken.false),
      sym c.fstype_broken.ensures ∙ c.if-fstype_broken.true,
    ))

pub returns-then-fsselection_broken : goal.returns-then-fsselection_broken
returns-then-fsselection_broken c = rw (kept_chain _)
    (simp (
      (sym c.weight_broken.ensures ∙ c.if-weight_broken.false),
      (sym c.width_broken.ensures ∙ c.if-width_broken.false),
      (sym c.fstype_broken.ensures ∙ c.if-fstype_broken.false),
      sym c.fsselection_broken.ensures ∙ c.if-fsselection_broken.true,
    ))

pub returns : goal.returns
returns c = rw (kept_chain _)
    (simp (
      (sym c.weight_broken.ensures ∙ c.if-weight_broken.false),
      (sym c.width_broken.ensures ∙ c.if-width_broken.false),
      (sym c.fstype_broken.ensures ∙ c.if-fstype_broken.false),
      (sym c.fsselection_broken.ensures ∙ c.if-fsselection_broken.false),
      ← c.sizes_broken.ensures,
    ))

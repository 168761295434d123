-- Each branch decides one part of the definition's order, form before difference.
use mathlib.Core.Path.{refl, sym, ◌∙◌}
use Rattle.outcomes.proofs.Laws.{when_none, when_some, then_none, first_here, first_past, passed_on, not_refused}
use Rattle.name_answers.specs.Names.{from_strings}
use Rattle.name_answers.proofs.from_strings.Goals as goal

pub returns-then-ill_formed : goal.returns-then-ill_formed
unfolding from_strings
returns-then-ill_formed c =
    let ill = sym c.ill_formed.ensures ∙ (when_some _ _ _).1 (c.if-ill_formed.true, refl) in
    sym (passed_on _ (first_here _ (first_here _ ill)))

pub returns-then-ill_formed-2 : goal.returns-then-ill_formed-2
unfolding from_strings
returns-then-ill_formed-2 c =
    let first = sym c.ill_formed.ensures ∙ (when_none _ _).1 c.if-ill_formed.false in
    let ill = sym c.ill_formed-2.ensures ∙ (when_some _ _ _).1 (c.if-ill_formed-2.true, refl) in
    sym (passed_on _ (first_here _ (first_past _ first ∙ ill)))

pub returns-then-differ : goal.returns-then-differ
unfolding from_strings
returns-then-differ c =
    let first = sym c.ill_formed.ensures ∙ (when_none _ _).1 c.if-ill_formed.false in
    let second = sym c.ill_formed-2.ensures ∙ (when_none _ _).1 c.if-ill_formed-2.false in
    let other = sym c.differ.ensures ∙ (when_some _ _ _).1 (c.if-differ.true, refl) in
    sym (passed_on _ (first_past _ ((then_none _ _).1 (first, second)) ∙ other))

pub returns : goal.returns
unfolding from_strings
returns c =
    let first = sym c.ill_formed.ensures ∙ (when_none _ _).1 c.if-ill_formed.false in
    let second = sym c.ill_formed-2.ensures ∙ (when_none _ _).1 c.if-ill_formed-2.false in
    let alike = sym c.differ.ensures ∙ (when_none _ _).1 c.if-differ.false in
    sym (not_refused _ (first_past _ ((then_none _ _).1 (first, second)) ∙ alike))

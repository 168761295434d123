-- Each return names the rule whose test is the first to find its rule broken.
use mathlib.Core.Path.{sym, ◌∙◌}
use native.Mathlib.Omega.{arith}
use Rattle.os2_rules.specs.Tests.{broken, verdict_of}
use Rattle.os2_rules.proofs.Laws.{start, past, stopped}
use Rattle.os2_rules.proofs.judge.Goals as goal

pub returns-then-weight_broken : goal.returns-then-weight_broken
unfolding broken
returns-then-weight_broken c =
    stopped c.args.v 1 (omega arith) (start c.args.v) (sym c.weight_broken.ensures ∙ c.if-weight_broken.true)

pub returns-then-width_broken : goal.returns-then-width_broken
unfolding broken
returns-then-width_broken c =
    let one = past c.args.v 1 (start c.args.v) (sym c.weight_broken.ensures ∙ c.if-weight_broken.false) in
    stopped c.args.v 2 (omega arith) one (sym c.width_broken.ensures ∙ c.if-width_broken.true)

pub returns-then-type_broken : goal.returns-then-type_broken
unfolding broken
returns-then-type_broken c =
    let one = past c.args.v 1 (start c.args.v) (sym c.weight_broken.ensures ∙ c.if-weight_broken.false) in
    let two = past c.args.v 2 one (sym c.width_broken.ensures ∙ c.if-width_broken.false) in
    stopped c.args.v 3 (omega arith) two (sym c.type_broken.ensures ∙ c.if-type_broken.true)

pub returns-then-rights_broken : goal.returns-then-rights_broken
unfolding broken
returns-then-rights_broken c =
    let one = past c.args.v 1 (start c.args.v) (sym c.weight_broken.ensures ∙ c.if-weight_broken.false) in
    let two = past c.args.v 2 one (sym c.width_broken.ensures ∙ c.if-width_broken.false) in
    let three = past c.args.v 3 two (sym c.type_broken.ensures ∙ c.if-type_broken.false) in
    stopped c.args.v 4 (omega arith) three (sym c.rights_broken.ensures ∙ c.if-rights_broken.true)

pub returns-then-selection_broken : goal.returns-then-selection_broken
unfolding broken
returns-then-selection_broken c =
    let one = past c.args.v 1 (start c.args.v) (sym c.weight_broken.ensures ∙ c.if-weight_broken.false) in
    let two = past c.args.v 2 one (sym c.width_broken.ensures ∙ c.if-width_broken.false) in
    let three = past c.args.v 3 two (sym c.type_broken.ensures ∙ c.if-type_broken.false) in
    let four = past c.args.v 4 three (sym c.rights_broken.ensures ∙ c.if-rights_broken.false) in
    stopped c.args.v 5 (omega arith) four (sym c.selection_broken.ensures ∙ c.if-selection_broken.true)

pub returns-then-regular_broken : goal.returns-then-regular_broken
unfolding broken
returns-then-regular_broken c =
    let one = past c.args.v 1 (start c.args.v) (sym c.weight_broken.ensures ∙ c.if-weight_broken.false) in
    let two = past c.args.v 2 one (sym c.width_broken.ensures ∙ c.if-width_broken.false) in
    let three = past c.args.v 3 two (sym c.type_broken.ensures ∙ c.if-type_broken.false) in
    let four = past c.args.v 4 three (sym c.rights_broken.ensures ∙ c.if-rights_broken.false) in
    let five = past c.args.v 5 four (sym c.selection_broken.ensures ∙ c.if-selection_broken.false) in
    stopped c.args.v 6 (omega arith) five (sym c.regular_broken.ensures ∙ c.if-regular_broken.true)

pub returns-then-sizes_broken : goal.returns-then-sizes_broken
unfolding broken
returns-then-sizes_broken c =
    let one = past c.args.v 1 (start c.args.v) (sym c.weight_broken.ensures ∙ c.if-weight_broken.false) in
    let two = past c.args.v 2 one (sym c.width_broken.ensures ∙ c.if-width_broken.false) in
    let three = past c.args.v 3 two (sym c.type_broken.ensures ∙ c.if-type_broken.false) in
    let four = past c.args.v 4 three (sym c.rights_broken.ensures ∙ c.if-rights_broken.false) in
    let five = past c.args.v 5 four (sym c.selection_broken.ensures ∙ c.if-selection_broken.false) in
    let six = past c.args.v 6 five (sym c.regular_broken.ensures ∙ c.if-regular_broken.false) in
    stopped c.args.v 7 (omega arith) six (sym c.sizes_broken.ensures ∙ c.if-sizes_broken.true)

pub returns : goal.returns
unfolding verdict_of broken
returns c =
    let one = past c.args.v 1 (start c.args.v) (sym c.weight_broken.ensures ∙ c.if-weight_broken.false) in
    let two = past c.args.v 2 one (sym c.width_broken.ensures ∙ c.if-width_broken.false) in
    let three = past c.args.v 3 two (sym c.type_broken.ensures ∙ c.if-type_broken.false) in
    let four = past c.args.v 4 three (sym c.rights_broken.ensures ∙ c.if-rights_broken.false) in
    let five = past c.args.v 5 four (sym c.selection_broken.ensures ∙ c.if-selection_broken.false) in
    let six = past c.args.v 6 five (sym c.regular_broken.ensures ∙ c.if-regular_broken.false) in
    let seven = past c.args.v 7 six (sym c.sizes_broken.ensures ∙ c.if-sizes_broken.false) in
    sym seven

-- What the two searches found is one case of the definition.
use mathlib.Core.Path.{sym, ◌∙◌, ap}
use Rattle.outcomes.specs.Outcomes.{option_of}
use Rattle.name_search.proofs.Finds.{find_has}
use Rattle.name_answers.specs.Names.{from_both}
use Rattle.name_answers.proofs.NameLaws.{name_from}
use Rattle.name_answers.proofs.accepted_postscript.Goals as goal

pub from_records-requires : goal.from_records-requires
from_records-requires c =
    let first = sym c.find-first.ensures.found ∙ ap option_of c.in-Some.is in
    let second = sym c.find-second.ensures.found ∙ ap option_of c.in-Some-second.is in
    ((find_has _ _ first).inside, (find_has _ _ second).inside)

pub returns-in-Some-second : goal.returns-in-Some-second
unfolding from_both
returns-in-Some-second c =
    let first = sym c.find-first.ensures.found ∙ ap option_of c.in-Some.is in
    let second = sym c.find-second.ensures.found ∙ ap option_of c.in-Some-second.is in
    c.from_records.ensures ∙ sym (name_from _ c.args.table.now.accepted first second)

pub returns-in-None-second : goal.returns-in-None-second
unfolding from_both
returns-in-None-second c =
    let first = sym c.find-first.ensures.found ∙ ap option_of c.in-Some.is in
    let second = sym c.find-second.ensures.found ∙ ap option_of c.in-None-second.is in
    sym (name_from _ c.args.table.now.accepted first second)

pub returns-in-Some-second-2 : goal.returns-in-Some-second-2
unfolding from_both
returns-in-Some-second-2 c =
    let first = sym c.find-first.ensures.found ∙ ap option_of c.in-None.is in
    let second = sym c.find-second.ensures.found ∙ ap option_of c.in-Some-second-2.is in
    sym (name_from _ c.args.table.now.accepted first second)

pub returns-in-None-second-2 : goal.returns-in-None-second-2
unfolding from_both
returns-in-None-second-2 c =
    let first = sym c.find-first.ensures.found ∙ ap option_of c.in-None.is in
    let second = sym c.find-second.ensures.found ∙ ap option_of c.in-None-second-2.is in
    sym (name_from _ c.args.table.now.accepted first second)

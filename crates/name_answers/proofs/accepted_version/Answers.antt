-- Each search settles one case of the definition.
use mathlib.Core.Path.{refl, sym, ◌∙◌, ap}
use Rattle.outcomes.specs.Outcomes.{option_of}
use Rattle.name_search.proofs.Finds.{find_has}
use Rattle.name_answers.specs.Versions.{from_records}
use Rattle.name_answers.proofs.VersionLaws.{version_from}
use Rattle.name_answers.proofs.accepted_version.Goals as goal

pub version_at-requires : goal.version_at-requires
version_at-requires c =
    let wide = sym c.find.ensures.found ∙ ap option_of c.in-Some.is in
    (find_has _ _ wide).inside

pub returns-in-Some : goal.returns-in-Some
unfolding from_records
returns-in-Some c =
    let wide = sym c.find.ensures.found ∙ ap option_of c.in-Some.is in
    c.version_at.ensures ∙ sym (version_from _ c.args.table.now.accepted wide refl)

pub version_at-requires-in-Some-found : goal.version_at-requires-in-Some-found
version_at-requires-in-Some-found c =
    let narrow = sym c.find-2.ensures.found ∙ ap option_of c.in-Some-found.is in
    (find_has _ _ narrow).inside

pub returns-in-Some-found : goal.returns-in-Some-found
unfolding from_records
returns-in-Some-found c =
    let wide = sym c.find.ensures.found ∙ ap option_of c.in_default.is in
    let narrow = sym c.find-2.ensures.found ∙ ap option_of c.in-Some-found.is in
    c.version_at-in-Some-found.ensures ∙ sym (version_from _ c.args.table.now.accepted wide narrow)

pub returns : goal.returns
unfolding from_records
returns c =
    let wide = sym c.find.ensures.found ∙ ap option_of c.in_default.is in
    let narrow = sym c.find-2.ensures.found ∙ ap option_of c.in_default-found.is in
    sym (version_from _ c.args.table.now.accepted wide narrow)

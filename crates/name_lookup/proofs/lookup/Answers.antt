-- A refusal is passed on; past the check the table is accepted, and the search finds the record that has the key or none.
use mathlib.Core.Path.{sym, ◌∙◌, ap}
use Rattle.outcomes.specs.Outcomes.{answered}
use Rattle.outcomes.proofs.Laws.{passed_on, not_refused, found, not_found}
use Rattle.name.proofs.Acceptances.{accepted_none, refused_some, record_inside}
use Rattle.outcomes.specs.Outcomes.{option_of}
use Rattle.name_search.proofs.Finds.{find_has}
use Rattle.name_lookup.specs.Answers.{lookup_of}
use Rattle.name_lookup.proofs.Reports.{looked_refused, looked_accepted}
use Rattle.name_lookup.proofs.lookup.Goals as goal

pub returns-in-Err : goal.returns-in-Err
unfolding lookup_of
returns-in-Err c =
    let e = refused_some _ c.check.ensures c.in-Err.is in
    record { answer = sym (passed_on _ e); looked = sym (looked_refused _ _ e) }

-- past its check the table is accepted
pub invariant_of-find_any-clause-accepted : goal.invariant_of-find_any-clause-accepted
invariant_of-find_any-clause-accepted c = accepted_none _ c.check.ensures c.in_default.is

-- what the search found
pub invariant_of-text_of-clause-inside : goal.invariant_of-text_of-clause-inside
invariant_of-text_of-clause-inside c =
    let accepted = accepted_none _ c.check.ensures c.in_default.is in
    let at = sym c.find_any-search.ensures.found ∙ ap option_of c.in-Some.is in
    record_inside _ accepted _ (find_has _ _ at).inside

pub returns-in-Some : goal.returns-in-Some
unfolding lookup_of
returns-in-Some c =
    let accepted = accepted_none _ c.check.ensures c.in_default.is in
    let at = sym c.find_any-search.ensures.found ∙ ap option_of c.in-Some.is in
    record {
      answer = ap answered c.text_of.ensures ∙ sym (not_refused _ accepted ∙ found _ _ at);
      looked = c.find_any-search.ensures.looked ∙ sym (looked_accepted _ _ accepted);
    }

pub returns-in-None : goal.returns-in-None
unfolding lookup_of
returns-in-None c =
    let accepted = accepted_none _ c.check.ensures c.in_default.is in
    let nowhere = sym c.find_any-search.ensures.found ∙ ap option_of c.in-None.is in
    record {
      answer = sym (not_refused _ accepted ∙ not_found _ _ nowhere);
      looked = c.find_any-search.ensures.looked ∙ sym (looked_accepted _ _ accepted);
    }

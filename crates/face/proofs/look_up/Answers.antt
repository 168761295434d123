-- The table is accepted, and the search finds the record that has the key or none.
use mathlib.Core.Path.{◌≡◌, refl, sym, ◌∙◌, ap}
use mathlib.Core.Option.{none, some}
use Rattle.outcomes.specs.Outcomes.{answered, option_of}
use Rattle.outcomes.proofs.Laws.{not_refused, found, not_found}
use Rattle.name.proofs.Acceptances.{record_inside}
use Rattle.name_layout.specs.Keys.{key_in}
use Rattle.name_search.specs.Searches.{record_with}
use Rattle.name_search.proofs.Finds.{find_has}
use Rattle.name_lookup.specs.Answers.{lookup_of}
use Rattle.face.specs.Replies.{said_record}
use Rattle.face.proofs.look_up.Goals as goal

pub returns-in_err-i : goal.returns-in_err-i
unfolding lookup_of
returns-in_err-i c =
    let h : record_with c.args.name.now.bytes.now (key_in c.args.key) ≡ none = sym c.find.ensures.found ∙ ap option_of c.in_err-i.was in
    ap said_record c.from_residual.ensures ∙ not_found _ _ refl ∙ sym (not_refused _ c.args.name.now.accepted ∙ not_found _ _ h)

pub invariant_of-text_of-clause-inside : goal.invariant_of-text_of-clause-inside
invariant_of-text_of-clause-inside c =
    let h : record_with c.args.name.now.bytes.now (key_in c.args.key) ≡ some c.in_ok-i.i = sym c.find.ensures.found ∙ ap option_of c.in_ok-i.was in
    record_inside _ c.args.name.now.accepted _ (find_has _ _ h).inside

pub returns : goal.returns
unfolding lookup_of
returns c =
    let h : record_with c.args.name.now.bytes.now (key_in c.args.key) ≡ some c.in_ok-i.i = sym c.find.ensures.found ∙ ap option_of c.in_ok-i.was in
    found _ _ refl ∙ ap answered c.text_of.ensures ∙ sym (not_refused _ c.args.name.now.accepted ∙ found _ _ h)

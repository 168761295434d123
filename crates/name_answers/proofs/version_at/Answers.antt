-- The part lent to the search is the record's string, and what it finds there is told with the record's number.
use Rattle.std.proofs.Common.{◌∙◌, ap}
use Rattle.outcomes.specs.Outcomes.{found_or}
use Rattle.version_text.specs.Versions.{version_in}
use Rattle.name_answers.specs.Versions.{read_from}
use Rattle.name_answers.proofs.version_at.Goals as goal

pub returns-in-Some : goal.returns-in-Some
unfolding read_from found_or
returns-in-Some c = ap (read_from _) (c.in-Some.ensures ∙ ap (version_in _) c.string_of-text.ensures)

pub returns-in-None : goal.returns-in-None
unfolding read_from found_or
returns-in-None c = ap (read_from _) (c.in-None.ensures ∙ ap (version_in _) c.string_of-text.ensures)

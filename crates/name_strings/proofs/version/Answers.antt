-- A refusal is passed on; else the table is accepted.
use Rattle.std.proofs.Common.{sym, ◌∙◌}
use Rattle.outcomes.proofs.Calls.{outcome_passed}
use Rattle.name.proofs.Acceptances.{accepted_none, refused_some}
use Rattle.name_answers.specs.Versions.{read_at, said_version_refusal}
use Rattle.name_answers.proofs.VersionLaws.{version_refused}
use Rattle.name_strings.proofs.version.Goals as goal

pub invariant_of-accepted_version-clause-accepted : goal.invariant_of-accepted_version-clause-accepted
invariant_of-accepted_version-clause-accepted c = accepted_none _ c.check.ensures c.in_ok-check.was

pub returns-in_err-check : goal.returns-in_err-check
returns-in_err-check c =
    outcome_passed read_at said_version_refusal _ c.from_residual.ensures.1 ∙ sym (version_refused _ (refused_some _ c.check.ensures c.in_err-check.was))

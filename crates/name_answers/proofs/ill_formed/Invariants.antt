-- The loop keeps that no character so far is another than the allowed ones; length and count are decided before it.
use Rattle.outcomes.proofs.Laws.{SoFar}
use Rattle.characters.specs.Strings.{characters}
use Rattle.name_answers.specs.Forms.{other_at}
use Rattle.name_answers.proofs.ill_formed.Given as goal

abbrev pub invariant-loop-i : goal.invariant-loop-i
invariant-loop-i l = SoFar (other_at (characters l.string.wide l.string.text.now)) l.count l.i

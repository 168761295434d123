-- Of equally many characters, the loop keeps that none so far differs.
use Rattle.outcomes.proofs.Laws.{SoFar}
use Rattle.characters.specs.Strings.{characters}
use Rattle.name_answers.specs.Forms.{differ_at}
use Rattle.name_answers.proofs.differ.Given as goal

abbrev pub invariant-loop-i : goal.invariant-loop-i
invariant-loop-i l = SoFar (differ_at (characters l.first.wide l.first.text.now) (characters l.second.wide l.second.text.now)) l.count l.i

-- Two bytes make one character, by induction on the bytes.
use Rattle.characters.proofs.Laws.{length_pairs}
use Rattle.characters.proofs.Characters.count.Goals as goal

pub returns-then-self : goal.returns-then-self
returns-then-self c = rw (c.if-self.true, length_pairs)

-- The loop keeps that the rest of the word, behind the number read, gives what the word gives.
use Rattle.std.proofs.Common.{◌≡◌, ◌≤◌, drop}
use Rattle.level.specs.Words.{level_in}
use Rattle.level.proofs.Words.{level_from}
use Rattle.level.proofs.level_in.Given as goal

abbrev pub invariant-loop-byte : goal.invariant-loop-byte
invariant-loop-byte l = (l.n ≤ 6) × (level_from l.n (drop l.byte-index l.word) ≡ level_in l.word)

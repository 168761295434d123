-- The loop keeps that the digits of what is left, and behind them those that stand already, are the number's.
use Rattle.std.proofs.Common.{◌≤◌, ◌≡◌, length, drop}
use Rattle.lines.specs.Numerals as Numerals
use Rattle.lines.specs.Numerals.{decimal}
use Rattle.lines.proofs.spell.Given as goal

abbrev pub invariant-loop-k : goal.invariant-loop-k
invariant-loop-k l = (l.k ≤ 20) × (length l.digits ≡ length l.initial.digits) × (Numerals.digits l.k l.rest (drop l.k l.digits) ≡ decimal l.n)

-- Each arm is the definition at its number; above 5 the definition refuses.
use borrow.Author.Tests.{lt-ltb}
use native.Mathlib.Omega.{arith}
use Rattle.level.specs.Levels.{level_of}
use Rattle.level.proofs.LevelTryFromU32.try_from.Goals as goal

pub returns-in-0 : goal.returns-in-0
unfolding level_of
returns-in-0 c = rw c.in-0.is

pub returns-in-1 : goal.returns-in-1
unfolding level_of
returns-in-1 c = rw c.in-1.is

pub returns-in-2 : goal.returns-in-2
unfolding level_of
returns-in-2 c = rw c.in-2.is

pub returns-in-3 : goal.returns-in-3
unfolding level_of
returns-in-3 c = rw c.in-3.is

pub returns-in-4 : goal.returns-in-4
unfolding level_of
returns-in-4 c = rw c.in-4.is

pub returns-in-5 : goal.returns-in-5
unfolding level_of
returns-in-5 c = rw c.in-5.is

pub returns-in_default : goal.returns-in_default
unfolding level_of
returns-in_default c = simp (lt-ltb 5 c.args.number (omega arith))

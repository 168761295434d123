-- What is read lies within the room, and what is left of the room shrinks with each read.
use Rattle.std.proofs.Common.{length, ◌-◌, ◌≤◌}
use Rattle.listing_io.proofs.read_full.Given as goal

abbrev pub invariant-loop-done : goal.invariant-loop-done
invariant-loop-done g l = l.done ≤ length l.initial.room

abbrev pub decreases-loop-done : goal.decreases-loop-done
decreases-loop-done g l = length l.initial.room - l.done

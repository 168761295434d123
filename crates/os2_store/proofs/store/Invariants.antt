-- The invariant: the room holds the fields below k. A version that lacks a field lacks the later ones, so the loop may stop there.
use Rattle.os2_store.specs.Writing.{image}
use mathlib.Core.Path.{◌≡◌}
use Rattle.os2_store.proofs.store.Given as goal

abbrev pub invariant-loop-k : goal.invariant-loop-k
invariant-loop-k l = l.room ≡ image l.version l.numbers l.initial.room l.k

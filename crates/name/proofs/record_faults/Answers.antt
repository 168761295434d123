-- Where the quick pass finds no fault no record has one; else the exact pass decides.
use mathlib.Core.Path.{sym}
use Rattle.name.proofs.record_faults.Goals as goal

pub returns-then-surely_sound : goal.returns-then-surely_sound
returns-then-surely_sound c = sym (c.surely_sound.ensures c.if-surely_sound.true)

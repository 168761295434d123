-- What a rack stands for: a map from slot to face.
use Rattle.std.specs.Prelude.{cond, not, [], eqb, get_or, take}
use Rattle.std.proofs.Math.Option.{Option, none, some}
use Rattle.choice.specs.Faces.{Face, Slots}
use Rattle.face.specs.Reading.{unfit}
use Rattle.chooser.specs.declared.Slot.{Slot}
use Rattle.chooser.specs.declared.Rack.{Rack}

-- a slot holds a face exactly where its family's length is 1 to 64
unfoldable pub slot_of : Slot → Option Face
slot_of s =
    cond (unfit s.length) none
    (some (record { family = take s.length s.family; weight = s.weight; width = s.width; sloped = not (eqb s.sloped 0) }))

-- past the last slot there is none
abbrev pub no_slot : Slot
no_slot = record { weight = 0; width = 0; sloped = 0; length = 0; family = [] }

-- what each slot holds
unfoldable pub held : Rack → Slots
held r i = slot_of (get_or r.slots i no_slot)

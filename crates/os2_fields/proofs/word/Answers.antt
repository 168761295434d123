-- The field has two bytes.
use mathlib.Core.Path.{sym, ◌∙◌}
use native.Mathlib.Omega.{arith}
use Rattle.os2_fields.proofs.Laws.{raw_word}
use Rattle.os2_fields.proofs.word.Goals as goal

pub read_u16-requires : goal.read_u16-requires
read_u16-requires c = omega (arith, c.requires.two, c.requires.lies.inside)

pub returns : goal.returns
returns c = c.read_u16.ensures ∙ sym (raw_word _ _ c.requires.two)

-- The width picks the read; a width that is neither 1 nor 2 is 4.
use mathlib.Core.Path.{sym, ◌∙◌}
use native.Mathlib.Omega.{arith}
use Rattle.os2_fields.proofs.Laws.{four, raw_byte, raw_word, raw_long}
use Rattle.os2_fields.proofs.number.Goals as goal

pub returns-then-width-eq1 : goal.returns-then-width-eq1
returns-then-width-eq1 c = c.from.ensures ∙ sym (raw_byte _ _ c.if-width-eq1.true)

pub returns-then-width-eq2 : goal.returns-then-width-eq2
returns-then-width-eq2 c = c.from-then-width-eq2.ensures ∙ c.read_u16.ensures ∙ sym (raw_word _ _ c.if-width-eq2.true)

pub read_u32-requires : goal.read_u32-requires
read_u32-requires c = omega (arith, four c.requires.sound.wide c.if-width-eq1.false c.if-width-eq2.false)

pub returns : goal.returns
returns c = c.read_u32.ensures ∙ sym (raw_long _ _ (four c.requires.sound.wide c.if-width-eq1.false c.if-width-eq2.false))

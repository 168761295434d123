-- The sign picks the reading; a signed field has two bytes.
use mathlib.Core.Path.{sym, ◌∙◌, ap}
use native.Mathlib.Omega.{arith}
use lib.IntN.{pos}
use mir.Facts.{to_z-of_z}
use mir.Syntax.{w64}
use Rattle.os2_fields.specs.Fields.{signed_of}
use Rattle.os2_fields.proofs.Laws.{value_signed, value_plain}
use borrow.Author.Rules.{rules}
use Rattle.os2_fields.proofs.value.Goals as goal

pub read_u16-requires : goal.read_u16-requires
read_u16-requires c = omega (arith, c.requires.sound.signs c.if-f.true)

pub returns-then-f : goal.returns-then-f
returns-then-f c = let signed = c.if-f.true in
    let two = c.requires.sound.signs signed in
    to_z-of_z {w = w64} (search rules) ∙ (c.signed.ensures ∙ (ap (signed_of 2) c.read_u16.ensures ∙ sym (value_signed _ _ signed two)))

pub returns : goal.returns
returns c = to_z-of_z {w = w64} (search rules) ∙ (c.from.ensures ∙ (ap pos c.number.ensures ∙ sym (value_plain _ _ c.if-f.false)))

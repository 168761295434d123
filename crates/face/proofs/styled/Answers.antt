-- Each number is the field's.
use mathlib.Core.Path.{◌∙◌, ap}
use lib.Dec.{eqb}
use Rattle.os2_rules.specs.Bits.{bit}
use Rattle.os2_fields.specs.Catalogue.{catalogue, field_of}
use Rattle.face.proofs.styled.Goals as goal

pub word-requires : goal.word-requires
unfolding field_of catalogue
word-requires c = c.requires.weight

pub word-requires-2 : goal.word-requires-2
unfolding field_of catalogue
word-requires-2 c = c.requires.width

pub word-requires-3 : goal.word-requires-3
unfolding field_of catalogue
word-requires-3 c = c.requires.selection

pub returns : goal.returns
unfolding field_of catalogue
returns c = let weight = c.word.ensures in
    let width = c.word-2.ensures in
    let sloped = ap (λ x. eqb x 1) (c.bit_of.ensures ∙ ap (bit 0) (c.from.ensures ∙ c.word-3.ensures)) in
    let text = c.args.text in
    λ i. record { weight = weight i; width = width i; sloped = sloped i; start = text.start; len = text.len }

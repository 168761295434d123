-- The library's reading of 16 bits as a signed number is the definition's.
use Rattle.std.proofs.Common.{rules, ℕ, ◌≡◌, ◌<◌, ◌∙◌, arith}
use mir.Val.{to_z}
use mir.Facts.{to_z-of_z}
use borrow.Author.Tests.{lt-ltb}
use mir.Syntax.{w16, w64}
use Rattle.os2_fields.specs.Fields.{signed_of}
use Rattle.os2_fields.proofs.signed.Goals as goal

two_bytes : (x : ℕ) → x < 65536 → to_z w16 x ≡ signed_of 2 x
unfolding signed_of
two_bytes x h = simp (lt-ltb x 65536 h)

pub returns : goal.returns
returns c =
    to_z-of_z {w = w64} (search rules)
    ∙ (c.from.ensures ∙ (to_z-of_z {w = w16} (search rules) ∙ (c.cast_signed.ensures ∙ two_bytes c.args.x (omega arith))))

-- Each entry is that of its number.
use mathlib.Core.Path.{◌≡◌}
use native.Mathlib.Omega.{arith}
use Rattle.os2_fields.specs.Catalogue.{catalogue, field_of}
use Rattle.os2_fields.proofs.catalogue.unicode_range.Goals as goal

pub returns-then-i-eq0 : goal.returns-then-i-eq0
unfolding field_of catalogue
returns-then-i-eq0 c = rw c.if-i-eq0.true

pub returns-then-i-eq1 : goal.returns-then-i-eq1
unfolding field_of catalogue
returns-then-i-eq1 c = rw c.if-i-eq1.true

pub returns-then-i-eq2 : goal.returns-then-i-eq2
unfolding field_of catalogue
returns-then-i-eq2 c = rw c.if-i-eq2.true

pub returns : goal.returns
unfolding field_of catalogue
returns c = let e : c.args.i ≡ 3 = omega arith in rw e

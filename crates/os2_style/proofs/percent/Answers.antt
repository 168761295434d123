-- Each arm is the definition at its class.
use mathlib.Core.Path.{◌≡◌, sym, ap}
use native.Mathlib.Omega.{arith}
use lib.Ieee.{of_bits}
use Rattle.os2_style.specs.Style.{percent_of}
use Rattle.os2_style.proofs.percent.Goals as goal

pub returns-in-1 : goal.returns-in-1
unfolding of_bits percent_of
returns-in-1 c = sym (ap percent_of c.in-1.is)

pub returns-in-2 : goal.returns-in-2
unfolding of_bits percent_of
returns-in-2 c = sym (ap percent_of c.in-2.is)

pub returns-in-3 : goal.returns-in-3
unfolding of_bits percent_of
returns-in-3 c = sym (ap percent_of c.in-3.is)

pub returns-in-4 : goal.returns-in-4
unfolding of_bits percent_of
returns-in-4 c = sym (ap percent_of c.in-4.is)

pub returns-in-5 : goal.returns-in-5
unfolding of_bits percent_of
returns-in-5 c = sym (ap percent_of c.in-5.is)

pub returns-in-6 : goal.returns-in-6
unfolding of_bits percent_of
returns-in-6 c = sym (ap percent_of c.in-6.is)

pub returns-in-7 : goal.returns-in-7
unfolding of_bits percent_of
returns-in-7 c = sym (ap percent_of c.in-7.is)

pub returns-in-8 : goal.returns-in-8
unfolding of_bits percent_of
returns-in-8 c = sym (ap percent_of c.in-8.is)

pub returns-in_default : goal.returns-in_default
unfolding of_bits percent_of
returns-in_default c = let nine : c.args.width ≡ 9 = omega arith in sym (ap percent_of nine)

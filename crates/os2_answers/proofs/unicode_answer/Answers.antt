-- It is the bit of a Unicode range, which came in when the question says.
use Prim.Native.Nat.{◌+◌, ◌/◌}
use native.Mathlib.Omega.{arith}
use Rattle.outcomes.specs.Outcomes.{bare}
use Rattle.os2_fields.specs.Catalogue.{field_of}
use Rattle.os2_fields.proofs.Tiling.{range_since}
use Rattle.os2_acceptance.proofs.Accepting.{open_lies}
use Rattle.os2_questions.specs.Questions.{own_refusal, since, on_whole}
use Rattle.os2_questions.proofs.Settling.{under}
use Rattle.os2_answers.specs.Asking.{value_of, given}
use Rattle.os2_answers.proofs.unicode_answer.Goals as goal

pub unicode_range-range-requires : goal.unicode_range-range-requires
unfolding own_refusal
unicode_range-range-requires c = omega (arith, (under 127 c.args.n (bare 7)).0 c.requires)

pub bit_in-requires : goal.bit_in-requires
unfolding own_refusal
bit_in-requires c = let l = (under 127 c.args.n (bare 7)).0 c.requires in
    record {
      lies = rw c.unicode_range-range.ensures (open_lies _ _ c.args.table.now.accepted (26 + c.args.n / 32) (omega arith));
      low = omega arith;
    }

pub returns : goal.returns
unfolding given since on_whole value_of field_of own_refusal
returns c = let l = (under 127 c.args.n (bare 7)).0 c.requires in
    rw (c.unicode_range-range.ensures, range_since (c.args.n / 32) (omega arith)) at c.bit_in.ensures

-- It is the bit of fsSelection, which came in when the question says.
use Prim.Native.Nat.{zero-le}
use native.Mathlib.Omega.{arith}
use Rattle.outcomes.specs.Outcomes.{bare}
use Rattle.os2_fields.specs.Catalogue.{catalogue, field_of}
use Rattle.os2_acceptance.proofs.Accepting.{open_lies}
use Rattle.os2_questions.specs.Questions.{own_refusal, on_whole}
use Rattle.os2_questions.proofs.Settling.{under}
use Rattle.os2_answers.specs.Asking.{value_of, given}
use Rattle.os2_answers.proofs.selection_answer.Goals as goal

pub bit_in-requires : goal.bit_in-requires
unfolding own_refusal field_of catalogue
bit_in-requires c = let few = (under 9 c.args.n (bare 7)).0 c.requires in
    record { lies = λ k w. open_lies _ _ c.args.table.now.accepted 31 (omega arith) zero-le zero-le; low = omega arith }

pub returns : goal.returns
unfolding given on_whole value_of field_of catalogue
returns c = rw c.selection_since.ensures at c.bit_in.ensures

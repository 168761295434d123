-- It is the bit of the code pages, which came in when the question says.
use Prim.Native.Nat.{◌+◌, ◌/◌}
use mathlib.Core.Path.{sym, ◌∙◌}
use native.Mathlib.Omega.{arith}
use Rattle.outcomes.specs.Outcomes.{bare}
use Rattle.os2_fields.proofs.Tiling.{page_since}
use Rattle.os2_acceptance.proofs.Accepting.{open_lies}
use Rattle.os2_questions.specs.Questions.{own_refusal, since, on_whole}
use Rattle.os2_questions.proofs.Settling.{under}
use Rattle.os2_answers.specs.Asking.{value_of, given}
use Rattle.os2_answers.proofs.code_page_answer.Goals as goal

pub code_pages-pages-requires : goal.code_pages-pages-requires
unfolding own_refusal
code_pages-pages-requires c = omega (arith, (under 63 c.args.n (bare 7)).0 c.requires)

pub code_page_since-requires : goal.code_page_since-requires
code_page_since-requires c = c.requires

pub bit_in-requires : goal.bit_in-requires
unfolding since own_refusal
bit_in-requires c = let l = (under 63 c.args.n (bare 7)).0 c.requires in
    let e = page_since (c.args.n / 32) (omega arith) in
    record {
      lies = rw (c.code_pages-pages.ensures, c.code_page_since.ensures ∙ sym e) (open_lies _ _ c.args.table.now.accepted (39 + c.args.n / 32) (omega arith));
      low = omega arith;
    }

pub returns : goal.returns
unfolding given on_whole value_of
returns c = rw (c.code_pages-pages.ensures, c.code_page_since.ensures) at c.bit_in.ensures

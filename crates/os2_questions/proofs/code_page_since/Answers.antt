-- The catalogue's version of the code pages is the question's.
use native.Mathlib.Omega.{arith}
use Rattle.outcomes.specs.Outcomes.{bare}
use Rattle.os2_fields.proofs.Tiling.{page_since}
use Rattle.os2_questions.specs.Questions.{own_refusal, since}
use Rattle.os2_questions.proofs.Settling.{under}
use Rattle.os2_questions.proofs.code_page_since.Goals as goal

pub code_pages-pages-requires : goal.code_pages-pages-requires
unfolding own_refusal
code_pages-pages-requires c = omega (arith, (under 63 c.args.n (bare 7)).0 c.requires)

pub returns : goal.returns
unfolding since own_refusal
returns c = rw c.code_pages-pages.ensures (page_since _ (omega (arith, (under 63 c.args.n (bare 7)).0 c.requires)))

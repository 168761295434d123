-- Of all 256 codes the count is 84, by the law of the character test.
use Rattle.std.proofs.Common.{rules, ◌≡◌, ◌+◌, cond}
use native.Mathlib.Omega.{arith}
use Rattle.charset.specs.Allowed.{allowed, allowed_below}
use Rattle.charset.proofs.Laws.{eighty_four, allowed_more}
use Rattle.leaf_rows.proofs.count_allowed.Goals as goal
use Rattle.std.proofs.lemmas.Grind.{common_steps}

pub loop-code-init : goal.loop-code-init
unfolding allowed_below
loop-code-init c = search rules

pub loop-code-preserved : goal.loop-code-preserved
loop-code-preserved c = let more = allowed_more c.loop-code.code in grind (arith, common_steps, more)

pub returns-after-is_allowed : goal.returns-after-is_allowed
returns-after-is_allowed c =
    let last : c.loop-code.code ≡ 255 = omega arith in
    let more : allowed_below 256 ≡ cond (allowed 255) 1 0 + allowed_below 255 = allowed_more 255 in
    grind (arith, common_steps, last, more, eighty_four)

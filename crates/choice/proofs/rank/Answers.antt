-- The digits are those of the definition.
use mathlib.Core.Path.{◌∙◌}
use Rattle.choice.specs.Ranks.{rank}
use Rattle.choice.proofs.Words.{differ_said, gap_said}
use Rattle.choice.proofs.rank.Goals as goal

pub returns : goal.returns
unfolding rank
returns c =
    let slope = c.from-slope.ensures ∙ differ_said _ _ in
    let wide = c.from-wide.ensures ∙ c.abs_diff.ensures ∙ gap_said _ _ in
    let heavy = c.from-heavy.ensures ∙ c.abs_diff-2.ensures ∙ gap_said _ _ in
    rw (slope, wide, c.nearest_u16.ensures, heavy, c.nearest_u16-2.ensures, c.from.ensures)

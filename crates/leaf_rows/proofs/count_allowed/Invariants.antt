-- The loop keeps that the count is that of the codes passed.
use Rattle.std.proofs.Common.{◌≡◌, ◌≤◌}
use Rattle.charset.specs.Allowed.{allowed_below}
use Rattle.leaf_rows.proofs.count_allowed.Given as goal

abbrev pub invariant-loop-code : goal.invariant-loop-code
invariant-loop-code l = (l.count ≤ l.code) × (l.count ≡ allowed_below l.code)

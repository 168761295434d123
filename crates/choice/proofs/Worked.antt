-- The requests that are worked out by hand, by computing.
-- Assumes nothing.
use mathlib.Core.Path.{refl}
use Rattle.outcomes.specs.Outcomes.{found_or}
use Rattle.same_bytes.specs.Same.{same}
use Rattle.choice.specs.Ranks.{differ, gap, numbers_of, below, before, of_family, earlier, best, request_of}
use Rattle.choice.specs.Examples.{Steps, Numbers, Families, Slots32, Ties, Exact}

pub requests_hold : Steps request_of × Numbers request_of × Families request_of × Slots32 request_of × Ties request_of × Exact request_of
unfolding found_or same differ gap numbers_of below before of_family earlier best request_of
requests_hold = (refl, refl, refl, refl, refl, refl)

-- What a slot holds and what a request names. Document 02, Ask 7: "A slot holds a family text .., weight, width class, and whether fsSelection bit 0 is set.", "A request
-- names family, weight, width and slope."
use Rattle.std.specs.Prelude.{ℕ, Bool, List}
use Rattle.std.proofs.Math.Option.{Option}

-- a face
pub record Face : Type 0 where
  pub family : List ℕ
  pub weight : ℕ
  pub width : ℕ
  pub sloped : Bool

-- what each slot holds, by its number
abbrev pub Slots : Type 0
Slots = ℕ → Option Face

-- The five stores are those of the row.
use Rattle.std.proofs.Common.{◌≡◌, ◌+◌, suc, arith}
use Rattle.name_compare.specs.Differences.{key_numbered, row_of}
use Rattle.name_compare.proofs.put.Goals as goal

pub returns : goal.returns
unfolding row_of key_numbered
returns c = let at = c.args.at in
    let e₁ : at + 1 ≡ suc at = omega arith in
    let e₂ : at + 2 ≡ suc (suc at) = omega arith in
    let e₃ : at + 3 ≡ suc (suc (suc at)) = omega arith in
    let e₄ : at + 4 ≡ suc (suc (suc (suc at))) = omega arith in
    rw (e₁, e₂, e₃, e₄, c.number.ensures)

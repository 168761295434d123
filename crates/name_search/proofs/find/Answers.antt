-- A key of 16-bit numbers is sought by its own number.
use Rattle.std.proofs.Common.{true, ◌∙◌, ap, arith}
use Rattle.name_layout.specs.Keys.{key_in}
use Rattle.name_layout.proofs.Keys.{Small}
use Rattle.name.proofs.Theorems.{acceptable}
use Rattle.name_search.specs.Seeking.{sought_by}
use Rattle.name_search.proofs.Seeking.{not_beyond, sought_exact, by_sought}
use Rattle.name_search.proofs.find.Goals as goal

pub halving-requires : goal.halving-requires
halving-requires c = (acceptable _).0 c.args.table.now.accepted

pub returns : goal.returns
returns c =
    let b = c.args.table.now.each in
    let s : Small (key_in c.args.key) = record { platform = omega arith; encoding = omega arith; language = omega arith; name = omega arith } in
    let e = ap (λ n. sought_by n true) c.number.ensures ∙ sought_exact _ ((not_beyond _).1 s) in
    let p = by_sought c.args.table.now.bytes.now b _ _ e (c.halving.ensures.found, c.halving.ensures.looked) in
    record { found = p.0; looked = p.1 }

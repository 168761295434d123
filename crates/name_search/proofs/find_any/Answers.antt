-- By whether a part is above 65,535: what is sought is the key itself, or stands behind the last key before it.
use Rattle.std.proofs.Common.{sym, ◌∙◌, ap, false}
use Rattle.name_layout.specs.Keys.{key_in, packed}
use Rattle.name.proofs.Theorems.{acceptable}
use Rattle.name_search.specs.Searches.{record_with, looks_for}
use Rattle.name_search.specs.Seeking.{sought_by}
use Rattle.name_search.proofs.Seeking.{sought_behind, by_sought}
use Rattle.name_search.proofs.find_any.Goals as goal

pub halving-requires : goal.halving-requires
halving-requires c = (acceptable _).0 c.args.table.now.accepted

pub returns-then-is_beyond : goal.returns-then-is_beyond
returns-then-is_beyond c =
    let b = c.args.table.now.each in
    let k = key_in c.args.key in
    let e = ap (λ n. sought_by n false) (c.number.ensures ∙ ap packed c.last_before.ensures) ∙ sought_behind k (sym c.is_beyond.ensures ∙ c.if-is_beyond.true) in
    let p = by_sought c.args.table.now.bytes.now b k _ e (c.halving.ensures.found, c.halving.ensures.looked) in
    record { found = p.0; looked = p.1 }

pub narrow-requires : goal.narrow-requires
narrow-requires c = sym c.is_beyond.ensures ∙ c.if-is_beyond.false

pub returns : goal.returns
returns c =
    let t = c.args.table.now.bytes.now in
    record {
      found = c.find.ensures.found ∙ ap (record_with t) c.narrow.ensures;
      looked = c.find.ensures.looked ∙ ap (looks_for t) c.narrow.ensures;
    }

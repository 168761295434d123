-- The six stores are those of the record.
use borrow.Author.Rules.{rules}
use Rattle.name_store.specs.Entries.{Sixteen}
use Rattle.name_store.proofs.Stores.{record_stored}
use Rattle.name_store.proofs.put_record.Goals as goal

pub returns : goal.returns
returns c =
    let sixteen : Sixteen c.args.entry =
    record {
      platform = search rules;
      encoding = search rules;
      language = search rules;
      name = search rules;
      length = search rules;
    } in
    record_stored c.args.at c.args.entry c.args.offset sixteen c.ranges.offset.fits _ _ _ _ _ _ _
    c.store_u16.ensures c.store_u16-2.ensures c.store_u16-3.ensures c.store_u16-4.ensures c.store_u16-5.ensures c.store_u16-6.ensures

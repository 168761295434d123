-- The three stores are those of the front.
use Rattle.name_store.proofs.Stores.{front_stored}
use Rattle.name_store.proofs.put_front.Goals as goal

pub returns : goal.returns
returns c = front_stored c.args.count c.requires.1 _ _ _ _ c.store_u16.ensures c.store_u16-2.ensures c.store_u16-3.ensures

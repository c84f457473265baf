-- `put`: the place is lent, written and given back.
use Rattle.std.proofs.Common.{rules}
use Rattle.store.proofs.laws.Layout.{place_back}
use Rattle.store.proofs.places.put.Goals as goal

pub returns : goal.returns
returns c =
    rw c.copy_from_slice.ensures.after (place_back c.args.store.now c.args.i c.requires.0 c.requires.1 c.args.bytes.now (search rules))

use Rattle.std.proofs.Common.{append-nil}
use Rattle.store.proofs.laws.Bytes.{digits_bytes}
use Rattle.store.proofs.place.bytes_of.Goals as goal

pub returns : goal.returns
returns c =
    rw (c.copy_from_slice.ensures.after, c.copy_from_slice-2.ensures.after, c.kind.ensures, c.to_le_bytes.ensures, ← digits_bytes c.args.version, append-nil)

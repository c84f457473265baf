-- `newest_of_each`: the greatest version of each table in the first places.
use Rattle.std.specs.Prelude.{ℕ, ◌<◌, ◌≡◌, length, get_or}
use Rattle.store.specs.Layout.{saved_below}
use Rattle.store.specs.Saved.{newest}
use Rattle.store.proofs.kept.newest_of_each.Given as goal

abbrev pub invariant-loop-bytes : goal.invariant-loop-bytes
invariant-loop-bytes l = ((t : ℕ) → t < 64 → get_or l.greatest t 0 ≡ newest t (saved_below l.bytes-index l.places.bytes.now)) × (length l.greatest ≡ 64)

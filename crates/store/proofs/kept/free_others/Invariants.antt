-- `free_others`: the first i places are free where they are not kept, and so many are counted.
use Rattle.std.specs.Prelude.{◌≤◌, ◌≡◌, length}
use Rattle.store.specs.Kept.{is_kept}
use Rattle.store.specs.Layout.{store_size, saved_of, only_below}
use Rattle.store.proofs.laws.Only.{gone_below}
use Rattle.store.proofs.kept.free_others.Given as goal

abbrev pub invariant-loop-i : goal.invariant-loop-i
invariant-loop-i l = (l.store ≡ only_below l.i (is_kept l.list (saved_of l.initial.store)) l.initial.store) × (l.freed ≡ gone_below (is_kept l.list (saved_of l.initial.store)) l.initial.store l.i) × (l.freed ≤ l.i) × (length l.store ≡ store_size)

-- The first i devices are those of the array; each is one element of the list that the bytes stand for.
use Rattle.std.specs.Prelude.{◌≡◌, take, drop, ◌++◌}
use Rattle.engine.specs.Lens.{devices_of}
use Rattle.engine.proofs.lens.store_all.Given as goal

abbrev pub invariant-loop-i : goal.invariant-loop-i
invariant-loop-i l = devices_of l.bytes l.counts ≡ take l.i l.d-items ++ drop l.i (devices_of l.initial.bytes l.initial.counts)

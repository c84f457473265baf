-- The bytes so far are got, the others as they were.
use Rattle.std.specs.Prelude.{◌≡◌, ◌++◌, map, drop}
use Rattle.bus.specs.Events.{run_bus}
use Rattle.bus.specs.declared.Event.TheVariants.{Signal}
use Rattle.message.specs.Read.{gets_of, values_of}
use Rattle.message.proofs.sent.Sent.get_all.Given as goal

abbrev pub invariant-loop-i : goal.invariant-loop-i
invariant-loop-i l = (l.bus ≡ run_bus l.self.bus (map Signal (gets_of l.n l.i))) × (l.byte-items ≡ values_of l.self.bus (gets_of l.n l.i) ++ drop l.i l.initial.byte-items)

-- `protocol::stop::committed` meets its contract. The loop's invariant: the registers from PWM0 up to i are copied.
use Rattle.std.proofs.Common.{ap, arith}
use Rattle.std.specs.Prelude.{◌≡◌}
use Rattle.basics.specs.laws.Tabulate.{tabulated}
use Rattle.chip.specs.Kinds.{outputs_of}
use Rattle.chip.specs.Registers.{subadr1}
use Rattle.chip.specs.declared.RegisterMap.{RegisterMap}
use Rattle.protocol.specs.Stop.{committed_at, committed}
use Rattle.protocol.proofs.stop.committed.Goals as goal

pub returns : goal.returns
unfolding committed
returns c =
    let a = c.args in
    let l = c.loop-i in
    let e : l.i ≡ subadr1 (outputs_of a.chip) = omega (arith, ap (λ (m : RegisterMap). m.subadr1) c.register_map-i-end.ensures) in
    tabulated 28 (committed_at (outputs_of a.chip) a.written a.effective) l.next l.invariant.3 (rw e at l.invariant.4)

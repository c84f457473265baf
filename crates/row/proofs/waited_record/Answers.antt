-- The number is taken in the device's own unit.
use Rattle.std.proofs.Common.{sym, ap, ◌∙◌}
use Rattle.std.proofs.Math.Path.{refl}
use Rattle.refusals.specs.laws.Refusals.{accepted}
use Rattle.row.specs.Wait.{record_refusals}
use Rattle.totals.specs.Wait.{exceeds_for}
use Rattle.totals.proofs.laws.Wait.{bare_exceeds}
use Rattle.row.proofs.waited_record.Goals as goal

pub record_waited-requires : goal.record_waited-requires
record_waited-requires c =
    let a = c.args in
    ap (exceeds_for a.r) c.own_duration.ensures ∙ bare_exceeds a.r a.ticks
    ∙ (accepted (record_refusals a.r a.ticks) refl (sym c.in_ok-wait_check.ensures)).1.0

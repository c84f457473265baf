-- A row that is too short stays; any other takes the totals of the bus that the log leaves.
use Rattle.std.proofs.Common.{arith, length, length-take, le-ltb}
use Rattle.script.specs.Totals.{total_at, totals_after}
use Rattle.script.specs.laws.Totals.{row_none, row_more, row_done}
use Rattle.script.proofs.recording.totals_log.Goals as goal

pub loop-k-init : goal.loop-k-init
loop-k-init c = row_none _ _

pub total_at-requires : goal.total_at-requires
total_at-requires c = omega (arith, length-take 256 c.args.row.now, c.loop-k.auto.total-items)

pub loop-k-preserved : goal.loop-k-preserved
loop-k-preserved c = row_more (total_at c.recorded-bus.result) _ _ c.loop-k.k _ c.loop-k-test.true c.loop-k.invariant c.total_at.ensures

pub returns-clause-row_after : goal.returns-clause-row_after
unfolding totals_after
returns-clause-row_after c =
    let row = c.args.row.now in
    rw (le-ltb (length row) 256 c.if-row-lt256.false, ← c.recorded-bus.ensures) (row_done (total_at c.recorded-bus.result) row c.loop-k.total-items c.loop-k.k c.if-row-lt256.false c.loop-k.auto.k-end c.loop-k-test.false c.loop-k.invariant)

-- The loop: the totals of the first i outputs have grown, each by what it is lit of the wait and by the rest.
use Rattle.std.specs.Prelude.{◌<◌}
use Rattle.chip.specs.Kinds.{outputs_of}
use Rattle.device.proofs.laws.Output.{lit_few}
use Rattle.totals.proofs.laws.Raised.{raised_none}
use Rattle.totals.proofs.laws.Wait.{turn_room, turn_raised}
use Rattle.totals.proofs.raise.raise.Goals as goal

pub loop-i-init : goal.loop-i-init
loop-i-init g c =
    (raised_none _ _ c.requires.long.0, raised_none _ _ c.requires.long.1)

pub grown-requires-clause-part : goal.grown-requires-clause-part
grown-requires-clause-part g c =
    let there : c.loop-i.i < outputs_of c.args.d.chip = rw c.outputs-i-end.ensures.value at c.loop-i-test.true in
    rw (c.requires.right c.loop-i.i c.on.result there c.on.ensures) (lit_few c.args.d c.loop-i.i (g.U.Unit.count c.args.wait))

pub grown-requires-clause-room : goal.grown-requires-clause-room
grown-requires-clause-room g c =
    let there : c.loop-i.i < outputs_of c.args.d.chip = rw c.outputs-i-end.ensures.value at c.loop-i-test.true in
    rw (c.requires.right c.loop-i.i c.on.result there c.on.ensures)
    (turn_room c.args.d (g.U.Unit.count c.args.wait) c.loop-i.i c.args.lit.now c.args.unlit.now c.loop-i.lit c.loop-i.unlit c.requires.room there c.loop-i.invariant.0 c.loop-i.invariant.1)

pub loop-i-preserved : goal.loop-i-preserved
loop-i-preserved g c =
    let there : c.loop-i.i < outputs_of c.args.d.chip = rw c.outputs-i-end.ensures.value at c.loop-i-test.true in
    let on = c.requires.right c.loop-i.i c.on.result there c.on.ensures in
    turn_raised c.args.d (g.U.Unit.count c.args.wait) c.loop-i.i (g.U.Unit.count c.on.result) c.grown.result.0 c.grown.result.1 c.args.lit.now c.args.unlit.now c.loop-i.lit c.loop-i.unlit there on c.grown.ensures.lit_after c.grown.ensures.unlit_after c.loop-i.invariant.0 c.loop-i.invariant.1

-- The loop: the lines from here on lead to what all lines lead to.
use Rattle.std.proofs.Common.{sym, ◌∙◌, arith, length-drop}
use Rattle.std.specs.Prelude.{drop}
use Rattle.text.specs.laws.Lines.{end_few}
use Rattle.replay.proofs.Promises.{replay_shape}
use Rattle.script.specs.laws.Totals.{ahead_all, ahead_next, ahead_none}
use Rattle.script.proofs.recording.recorded.Goals as goal

pub loop-from-init : goal.loop-from-init
loop-from-init c = (c.new-judged.result.judged, rw (c.new-judged.ensures, c.empty.ensures) (ahead_all _))

pub slice_bounds-parse_entry-end : goal.slice_bounds-parse_entry-end
slice_bounds-parse_entry-end c =
    omega (arith, c.line_end-end.ensures, end_few (drop c.loop-from.from c.args.log.now), length-drop c.loop-from.from c.args.log.now, c.loop-from-test.true)

pub loop-from-preserved : goal.loop-from-preserved
loop-from-preserved c =
    let log = c.args.log.now in
    let bus = c.loop-from.judged.1.0 in
    let is = rw c.parse_entry.ensures at c.step_judged-r.ensures in
    (rw is (c.loop-from.invariant.0 ∙ sym (replay_shape bus c.loop-from.clock _)), ahead_next log c.loop-from.from c.line_end-end.result bus c.loop-from.clock c.step_judged-r.result c.loop-from-test.true c.line_end-end.ensures is ∙ c.loop-from.invariant.1)

pub returns : goal.returns
returns c =
    let i = c.loop-from.invariant in sym (ahead_none _ _ _ _ c.loop-from-test.false) ∙ i.1

-- `drain`: the lines of a run are answered from where the output is.
use Rattle.std.proofs.Common.{refl, rules, arith}
use Rattle.stream.proofs.Lines.{handed_none, handed_more, sends_batch, none_left}
use Rattle.stream.proofs.buffers.drain.Goals as goal

pub loop-read-init : goal.loop-read-init
loop-read-init g c = (handed_none c.args.before c.args.text.now, refl, c.requires.2)

pub returns-then-r-eq0-clause-drains : goal.returns-then-r-eq0-clause-drains
returns-then-r-eq0-clause-drains g c =
    let l = c.loop-read in
    record {
      done = l.invariant.0;
      stop = λ w. none_left c.args.before c.args.text.now l.read l.output l.invariant.0 c.state.result c.state.ensures l.out _ _ c.run-r.result refl c.run-r.ensures c.if-r-eq0.true (omega (arith, l.invariant.1, c.requires.0));
    }

pub hand_over-output-requires : goal.hand_over-output-requires
hand_over-output-requires g c =
    let l = c.loop-read in
    sends_batch c.args.before c.args.text.now l.read l.output l.invariant.0 c.state.result c.state.ensures l.out _ _ c.run-r.result refl c.run-r.ensures l.place l.invariant.2 c.requires.1

pub returns-then-has_failed-clause-drains : goal.returns-then-has_failed-clause-drains
returns-then-has_failed-clause-drains g c =
    let l = c.loop-read in
    record {
      done = handed_more c.args.before c.args.text.now l.read l.output l.invariant.0 c.state.result c.state.ensures l.out _ _ c.run-r.result refl c.run-r.ensures c.hand_over-output.result c.hand_over-output.ensures.state_value;
      stop = λ w. absurd (cc (c.if-has_failed.true, c.has_failed.ensures, w));
    }

pub loop-read-preserved : goal.loop-read-preserved
loop-read-preserved g c =
    let l = c.loop-read in
    (handed_more c.args.before c.args.text.now l.read l.output l.invariant.0 c.state.result c.state.ensures l.out _ _ c.run-r.result refl c.run-r.ensures c.hand_over-output.result c.hand_over-output.ensures.state_value, search rules, c.hand_over-output.ensures.place_after)

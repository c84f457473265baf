-- `take_turn`: what was read goes behind the bytes kept, to feed or to finish.
use Rattle.std.proofs.Common.{rules}
use Rattle.stream.proofs.Turns.{turn_fed, turn_finished, turn_failed}
use Rattle.stream.proofs.buffers.Buffers.take_turn.Goals as goal

pub returns-then-has_failed-clause-turns : goal.returns-then-has_failed-clause-turns
returns-then-has_failed-clause-turns g c =
    turn_failed c.args.s c.receive-input.result c.args.self.now.buf.now _ c.receive-input.ensures.receives (search rules) c.args.s.have _ (search rules)

pub returns-then-has_ended-clause-turns : goal.returns-then-has_ended-clause-turns
returns-then-has_ended-clause-turns g c =
    let m = c.receive-input.ensures.receives in
    turn_finished c.args.s c.receive-input.result c.args.self.now.buf.now _ m (search rules) _ _ (record { ended = search rules; none = m.none (search rules) }) c.finish.ensures.finishes

pub returns-clause-turns : goal.returns-clause-turns
returns-clause-turns g c =
    turn_fed c.args.s c.receive-input.result c.args.self.now.buf.now _ c.receive-input.ensures.receives (search rules) _ _ c.feed.ensures.feeds

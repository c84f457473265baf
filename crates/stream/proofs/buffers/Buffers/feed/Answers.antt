-- `feed`: what is drained and what is kept stand for the bytes before.
use Rattle.std.proofs.Common.{refl, arith}
use Rattle.stream.proofs.Turns.{fed}
use Rattle.stream.proofs.buffers.Buffers.feed.Goals as goal

pub returns-clause-feeds : goal.returns-clause-feeds
returns-clause-feeds g c =
    let asked = c.requires.1 in
    fed c.args.s c.args.input c.args.self.now.buf.now _ _ c.drain-d.result c.keep-have.result c.since.result c.since.ensures asked.more asked.on (omega (arith, c.since.ensures, asked.more, asked.room)) refl c.drain-d.ensures.drains c.keep-have.ensures

-- `finish`: the line feed that the last line lacks makes it complete.
use Rattle.std.proofs.Common.{refl, arith}
use Rattle.stream.proofs.Turns.{finished_none, finished}
use Rattle.stream.proofs.buffers.Buffers.finish.Goals as goal

pub returns-then-s-eq0-clause-finishes : goal.returns-then-s-eq0-clause-finishes
returns-then-s-eq0-clause-finishes g c = finished_none c.args.s c.args.input c.args.self.now.buf.now c.requires.1 c.if-s-eq0.true

pub returns-clause-finishes : goal.returns-clause-finishes
returns-clause-finishes g c =
    finished c.args.s c.args.input c.args.self.now.buf.now _ _ c.drain-d.result c.requires.1 c.requires.0.kept (omega (arith, c.if-s-eq0.false)) (omega (arith, c.requires.0.kept.few)) refl c.drain-d.ensures.drains

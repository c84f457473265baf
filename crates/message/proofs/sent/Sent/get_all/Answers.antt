-- When all are got.
use Rattle.std.proofs.Common.{rules}
use Rattle.message.proofs.laws.Gets.{gets_done}
use Rattle.message.proofs.sent.Sent.get_all.Goals as goal

pub returns-clause-value : goal.returns-clause-value
returns-clause-value c =
    gets_done c.args.n c.args.self _ c.loop-i.i (search rules) (search rules) c.loop-i.invariant.0

-- `feeds`: those of the parts, and those behind them, are the input's, and no more than it has bytes.
use Rattle.std.proofs.Common.{arith}
use Rattle.text.proofs.Scanning.{parts_counted, few_feeds}
use Rattle.text.proofs.lines.feeds.Goals as goal

pub feeds_of-requires : goal.feeds_of-requires
feeds_of-requires c =
    omega (arith, parts_counted 240 c.args.input.now c.as_chunks.ensures.front c.as_chunks.ensures.back, few_feeds c.args.input.now)

pub overflow_add-result : goal.overflow_add-result
overflow_add-result c =
    omega (arith, parts_counted 240 c.args.input.now c.as_chunks.ensures.front c.as_chunks.ensures.back, few_feeds c.args.input.now)

-- `write_registers`: the lines of the first i values are written, each of at most 8 bytes.
use Rattle.std.proofs.Common.{arith}
use Rattle.setting.specs.laws.Setting.{lines_next}
use Rattle.text.specs.laws.Write.{then, write_length}
use Rattle.setting.proofs.write.write_registers.Goals as goal

pub loop-i-preserved : goal.loop-i-preserved
loop-i-preserved c =
    let both = then c.loop-i.invariant.2 c.write_register-end.ensures.written in
    (omega (arith, c.write_register-end.ensures.upper_bound, c.loop-i.invariant.0), write_length _ _ _ _ _ both, rw (lines_next c.args.first c.loop-i.i c.args.values.now (omega arith)) at both)

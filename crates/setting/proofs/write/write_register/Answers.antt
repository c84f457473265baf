-- `write_register`: three texts, one after the other, of at most 8 bytes.
use Rattle.std.proofs.Common.{arith}
use Rattle.std.specs.Prelude.{[]}
use Rattle.setting.specs.laws.Setting.{line_few}
use Rattle.text.specs.laws.Decimal.{few_digits}
use Rattle.text.specs.laws.Write.{then}
use Rattle.setting.proofs.write.write_register.Goals as goal

pub write_line-requires : goal.write_line-requires
write_line-requires c =
    omega (arith, c.write_decimal-b.ensures.written.stop, few_digits 1 c.args.register (omega arith) (omega arith), c.write_text-a.ensures.stop)

pub returns-clause-written : goal.returns-clause-written
returns-clause-written c =
    then c.write_text-a.ensures (then c.write_decimal-b.ensures.written (rw c.from.ensures at c.write_line.ensures))

pub returns-clause-upper_bound : goal.returns-clause-upper_bound
returns-clause-upper_bound c =
    let w = then c.write_text-a.ensures (then c.write_decimal-b.ensures.written (rw c.from.ensures at c.write_line.ensures)) in
    omega (arith, w.stop, line_few c.args.register c.args.value [] c.requires.0 c.ranges.value.fits)

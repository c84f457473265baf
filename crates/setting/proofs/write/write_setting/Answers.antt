-- `write_setting`: three texts, one after the other; the first two have at most 10 and 9 bytes.
use Rattle.std.proofs.Common.{◌∙◌, arith, rules, length-take}
use Rattle.chip.specs.laws.Kinds.{number_few}
use Rattle.chip.specs.laws.Registers.{writables_few}
use Rattle.setting.specs.laws.Setting.{line_end, setting_written}
use Rattle.text.specs.Text.{text}
use Rattle.text.specs.laws.Decimal.{few_digits}
use Rattle.setting.proofs.write.write_setting.Goals as goal

pub write_line-b-requires : goal.write_line-b-requires
write_line-b-requires c =
    omega (arith, line_end (text "chip=") c.from.result c.write_line-a.ensures, few_digits 3 c.from.result (omega arith) (omega (arith, c.from.ensures, number_few c.args.setting.chip)))

pub write_registers-requires : goal.write_registers-requires
write_registers-requires c =
    let few = writables_few c.args.setting.chip in
    let long = length-take c.from-3.result c.args.setting.values in
    let chip = few_digits 3 c.from.result (omega arith) (omega (arith, c.from.ensures, number_few c.args.setting.chip)) in
    let addr = few_digits 2 c.from-2.result (omega arith) (search rules) in
    (omega (arith, long, few.2), omega (arith, long, line_end (text "addr=") c.from-2.result c.write_line-b.ensures, line_end (text "chip=") c.from.result c.write_line-a.ensures, chip, addr, few.0))

pub returns : goal.returns
returns c =
    setting_written c.args.setting _ _ _ c.from.ensures (c.from-first.ensures ∙ c.first_writable.ensures) (c.from-3.ensures ∙ c.writables.ensures) c.write_line-a.ensures (rw c.from-2.ensures at c.write_line-b.ensures) c.write_registers.ensures

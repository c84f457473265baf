-- `read_registers`: the first i lines are read; where one is not, none behind it is.
use Rattle.std.proofs.Common.{◌∙◌, sym, refl, ap, arith}
use Rattle.std.specs.Prelude.{◌+◌}
use Rattle.chip.specs.Registers.{writables}
use Rattle.chip.specs.laws.Registers.{writables_few}
use Rattle.setting.proofs.Lines.{registers_left}
use Rattle.setting.specs.laws.Reader.{register_byte_lem, registers_none, values_none, registers_more, values_more}
use Rattle.text.specs.Read.{rest_at, number_in}
use Rattle.setting.proofs.read.read_registers.Goals as goal

pub loop-i-init : goal.loop-i-init
loop-i-init c = (registers_none _ _, values_none _ _ _)

pub returns-in_default : goal.returns-in_default
returns-in_default c =
    let first = c.from-first.ensures ∙ c.first_writable.ensures in
    let none = registers_more _ _ _ _ _ c.loop-i.invariant.0 c.in_default.ensures in
    let left = registers_left c.args.chip c.from-first.result (writables c.args.chip) c.loop-i.i (rest_at c.args.text.now c.args.from) c.loop-i.values first refl (omega (arith, c.loop-i-test.true)) (sym none) c.loop-i.invariant.1 in
    record { field = left.0; values = left.1 }

pub overflow_cast-values : goal.overflow_cast-values
overflow_cast-values c =
    omega (arith, register_byte_lem (c.from-first.result + c.loop-i.i) (rest_at c.args.text.now c.loop-i.field), ap number_in c.in-Some.ensures)

pub loop-i-preserved : goal.loop-i-preserved
loop-i-preserved c =
    let more = registers_more _ _ _ _ _ c.loop-i.invariant.0 c.in-Some.ensures in
    (more, values_more _ _ _ _ _ _ _ more refl (omega (arith, c.loop-i-test.true, (writables_few c.args.chip).0)) c.loop-i.invariant.1)

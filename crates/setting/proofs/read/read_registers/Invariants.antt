-- `read_registers`: the first i lines are read.
use Rattle.std.specs.Prelude.{◌≡◌, ◌++◌, drop}
use Rattle.setting.specs.Reader.{registers_of, values_of}
use Rattle.text.specs.Read.{rest_at}
use Rattle.setting.proofs.read.read_registers.Given as goal

abbrev pub invariant-loop-i : goal.invariant-loop-i
invariant-loop-i l = (rest_at l.text l.field ≡ registers_of l.first l.i (rest_at l.text l.initial.field))
    × (l.values ≡ values_of l.first l.i (rest_at l.text l.initial.field) ++ drop l.i l.initial.values)

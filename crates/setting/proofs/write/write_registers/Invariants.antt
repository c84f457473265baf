-- `write_registers`: the lines of the first i values are written, each of at most 8 bytes.
use Rattle.std.specs.Prelude.{◌+◌, ◌*◌, ◌≤◌, ◌≡◌, length, take}
use Rattle.setting.specs.Setting.{register_lines}
use Rattle.text.specs.Write.{Written}
use Rattle.setting.proofs.write.write_registers.Given as goal

abbrev pub invariant-loop-i : goal.invariant-loop-i
invariant-loop-i l = (l.end ≤ l.at + 8 * l.i) × (length l.out ≡ length l.initial.out) × Written l.initial.out l.at (register_lines l.first (take l.i l.values)) l.out l.end

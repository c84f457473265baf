-- `device::Device::input_byte` meets its contract. The loop's invariant: `byte` is the set of the inputs below i that are 1, and `weight` the weight of the next. The measure is the number of inputs left.
use Rattle.std.specs.Prelude.{◌≡◌, ◌-◌, ◌^◌, ◌≤◌}
use Rattle.basics.specs.Bits.{mask_first}
use Rattle.device.specs.Output.{input_bit, blinker_outputs}
use Rattle.device.proofs.Device.input_byte.Given as goal

abbrev pub invariant-loop-i : goal.invariant-loop-i
invariant-loop-i l = (l.i ≤ 8) × (l.weight ≡ 2 ^ l.i) × (l.byte ≡ mask_first l.i (input_bit l.self) blinker_outputs)

abbrev pub decreases-loop-i : goal.decreases-loop-i
decreases-loop-i l = 8 - l.i

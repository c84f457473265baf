-- What the outputs of a driver share over one wait, and the lit steps of a blinker's output by its LS bits.
use Rattle.std.specs.Prelude.{ℕ}
use Rattle.lamp.specs.Window.{counted_ticks}
use Rattle.lamp.specs.Blinker.{blinker_lit}
use Rattle.lamp.specs.laws.Shared.{group_of, shared_of}
use Rattle.lamp.specs.declared.Shared.{Shared}
use Rattle.chip.specs.Kinds.{outputs_of}
use Rattle.chip.specs.Registers.{grppwm, grpfreq}
use Rattle.device.specs.Output.{blinker_by}
use Rattle.device.specs.Registers.{in_effect, is_awake, is_blinking}
use Rattle.device.specs.declared.Device.{Device}

abbrev pub grppwm_of : Device → ℕ
grppwm_of d = in_effect d (grppwm (outputs_of d.chip))

abbrev pub driver_shared : Device → ℕ → Shared
driver_shared d w = shared_of (is_awake d) (group_of (is_blinking d) (grppwm_of d) (in_effect d (grpfreq (outputs_of d.chip)))) d.count w

-- the lit steps of an output with these LS bits
abbrev pub lit_by : Device → ℕ → ℕ → ℕ
lit_by d ls w = counted_ticks (blinker_lit (blinker_by d ls)) d.count w

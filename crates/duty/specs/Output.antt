-- Demand 3 and whole blink periods on the answers of lit (RULES, Duty bounds and Blink periods). What these definitions bring together: a window is a tick
-- count t and a length w; awake is SLEEP 0; an output's mode is its two LEDOUT bits in effect; N is its PWM register in effect, M is GRPPWM and G is GRPFREQ
-- in effect; blinking off is DMBLNK 0.
use Rattle.std.specs.Prelude.{ℕ, ◌+◌, ◌≡◌, true, false}
use Rattle.chip.specs.Kinds.{is_driver, outputs_of}
use Rattle.chip.specs.Registers.{pwm0, grppwm, grpfreq}
use Rattle.device.specs.Registers.{in_effect, is_awake, is_blinking}
use Rattle.device.specs.Output.{ledout_of}
use Rattle.device.specs.declared.Device.{Device}
use Rattle.bus.specs.Devices.{bus_ok, has_device, device_at}
use Rattle.bus.specs.Place.{is_missing}
use Rattle.bus.specs.declared.Bus.{Bus}

-- an awake driver whose output has this mode and brightness in effect
pub record Output (d : Device) (out mode N : ℕ) : Type 0 where
  pub driver : is_driver d.chip ≡ true
  pub awake : is_awake d ≡ true
  pub mode_is : ledout_of d (outputs_of d.chip) out ≡ mode
  pub brightness : in_effect d (pwm0 + out) ≡ N

-- mode 10
abbrev pub Individual : Device → ℕ → ℕ → Type 0
Individual d out N = Output d out 2 N

-- mode 11 with blinking off
pub record Dimmed (d : Device) (out M N : ℕ) : Type 0 where
  pub output : Output d out 3 N
  pub dimming : in_effect d (grppwm (outputs_of d.chip)) ≡ M
  pub steady : is_blinking d ≡ false

-- mode 11 with blinking on
pub record Blinking (d : Device) (out G M N : ℕ) : Type 0 where
  pub output : Output d out 3 N
  pub dimming : in_effect d (grppwm (outputs_of d.chip)) ≡ M
  pub frequency : in_effect d (grpfreq (outputs_of d.chip)) ≡ G
  pub blinks : is_blinking d ≡ true

-- a well-formed bus, on which a device with that output stands at the tick t
pub record Stands (b : Bus) (dev out t : ℕ) : Type 0 where
  pub formed : bus_ok b ≡ true
  pub there : has_device b dev ≡ true
  pub has_output : is_missing (device_at b dev) out ≡ false
  pub at : (device_at b dev).count ≡ t

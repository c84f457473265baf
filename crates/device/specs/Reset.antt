-- A fresh device, and the reset of one: power-on, the RESET pin and the software reset call alike (RULES, Events).
use Rattle.std.specs.Prelude.{ℕ, false}
use Rattle.chip.specs.Values.{reset_control, reset_registers}
use Rattle.chip.specs.declared.Chip.{Chip}
use Rattle.device.specs.Fields.{with_stage, with_control, with_count, with_written, with_effective}
use Rattle.device.specs.declared.Device.{Device}
use Rattle.device.specs.declared.Stage.TheVariants.{Unselected}

-- just added: in reset state, OE low, the outside levels 255
abbrev pub fresh : Chip → ℕ → Device
fresh chip address =
    record {
      chip = chip;
      stage = Unselected;
      address = address;
      control = reset_control chip;
      count = 0;
      oe = false;
      levels = 255;
      written = reset_registers chip;
      effective = reset_registers chip;
    }

-- registers, both copies, the control byte and the count as after power-on, and deselected; OE, the outside levels and all else stay
unfoldable pub after_reset : Device → Device
after_reset d =
    with_stage
    (with_control
    (with_count
    (with_written
    (with_effective d (reset_registers d.chip))
    (reset_registers d.chip))
    0)
    (reset_control d.chip))
    Unselected

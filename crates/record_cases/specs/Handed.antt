-- Records and buses that no event makes.
use Rattle.std.specs.Prelude.{ℕ, [], ◌∷◌, set}
use Rattle.chip.specs.declared.Chip.{Chip}
use Rattle.chip.specs.declared.Chip.TheVariants.{Pca9635, Pca9634}
use Rattle.device.specs.Fields.{with_stage, with_control, with_written}
use Rattle.device.specs.Reset.{fresh}
use Rattle.device.specs.declared.Device.{Device}
use Rattle.device.specs.declared.Phase.{Phase}
use Rattle.device.specs.declared.Phase.TheVariants.{Idle, Write}
use Rattle.device.specs.declared.Stage.{Stage}
use Rattle.device.specs.declared.Stage.TheVariants.{Control, Data, ResetFirst}
use Rattle.bus.specs.Devices.{empty_bus, with_device}
use Rattle.bus.specs.declared.Bus.{Bus}
use Rattle.message.specs.Write.{write_reply}

abbrev pub bus_in : Phase → ℕ → Bus
bus_in p n = record { phase = p; count = n; devices = empty_bus.devices; lit = empty_bus.lit; unlit = empty_bus.unlit }

-- in the given stage, with 01h in PWM0
abbrev pub staged_of : Chip → ℕ → ℕ → Stage → Device
staged_of chip address control stage =
    with_stage (with_written (with_control (fresh chip address) control) (set (fresh chip address).written 2 1)) stage

-- a driver that waits for its control byte, one that takes data, one that has taken 06h A5h
abbrev pub mixed_bus : Bus
mixed_bus =
    with_device (with_device (with_device (bus_in Write 3) 0 (staged_of Pca9635 16 128 Control)) 1 (staged_of Pca9634 17 130 Data)) 2 (staged_of Pca9635 18 131 ResetFirst)

-- read-only bits set in MODE1, MODE2, SUBADR1 and ALLCALLADR
abbrev pub read_only_set : Bus
read_only_set =
    with_device (bus_in Idle 1) 0 (with_written (fresh Pca9635 16) (set (set (set (set (fresh Pca9635 16).written 0 249) 1 197) 24 227) 27 225))

-- a register written by a message of its own to the address 16
abbrev pub register_set : Bus → ℕ → ℕ → Bus
register_set b register value = (write_reply b 16 (register ∷ value ∷ [])).bus

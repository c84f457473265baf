-- Who answers an address (RULES, Selection).
use Rattle.std.specs.Prelude.{ℕ, ◌+◌, ◌/◌, ◌%◌, Bool, ◌&&◌, ◌||◌, cond, eqb}
use Rattle.basics.specs.Bits.{bit}
use Rattle.chip.specs.Kinds.{is_driver, outputs_of}
use Rattle.chip.specs.Registers.{mode1, subadr1, allcalladr}
use Rattle.device.specs.Fields.{with_stage}
use Rattle.device.specs.Registers.{held}
use Rattle.device.specs.declared.Device.{Device}
use Rattle.device.specs.declared.Phase.{Phase}
use Rattle.device.specs.declared.Phase.TheVariants as P
use Rattle.device.specs.declared.Stage.{Stage}
use Rattle.device.specs.declared.Stage.TheVariants.{Unselected, Control, Talking, ResetCall}

-- a START deselects
abbrev pub after_start : Device → Device
after_start d = with_stage d Unselected

-- a driver's own address is its hardware address; a blinker's is 1100 A2 A1 A0
unfoldable pub own_address : Device → ℕ
own_address d = cond (is_driver d.chip) d.address (96 + d.address)

-- bit k of MODE1 lets the driver answer the address in bits 7..1 of the register r
abbrev pub shared_by : Device → ℕ → ℕ → ℕ → Bool
shared_by d k r address = bit k (held d mode1) && eqb (held d r / 2) address

-- ALLCALLADR with MODE1 bit 0; SUBADR1, 2, 3 with bits 3, 2, 1
unfoldable pub answers_shared : Device → ℕ → ℕ → Bool
answers_shared d n address =
    shared_by d 0 (allcalladr n) address
    || shared_by d 3 (subadr1 n) address
    || shared_by d 2 (subadr1 n + 1) address
    || shared_by d 1 (subadr1 n + 2) address

-- for reads and writes alike, awake or asleep
unfoldable pub answers : Device → ℕ → Bool
answers d address =
    eqb (own_address d) address || is_driver d.chip && answers_shared d (outputs_of d.chip) address

-- 06h is the software reset call, which every driver takes whatever its registers say; 07h selects nobody
abbrev pub call_stage : Device → ℕ → Stage
call_stage d byte = cond (eqb (byte % 2) 0 && is_driver d.chip) ResetCall Unselected

-- the stage after the address byte; address 3 is judged first
unfoldable pub stage_after_address : Device → ℕ → Stage
stage_after_address d byte =
    cond (eqb (byte / 2) 3) (call_stage d byte)
    (cond (answers d (byte / 2)) (cond (eqb (byte % 2) 0) Control Talking) Unselected)

-- the message's direction is bit 0 of the address byte, whether or not anyone answers
abbrev pub phase_after_address : ℕ → Phase
phase_after_address byte = cond (eqb (byte % 2) 0) P.Write P.Read

-- What a device does at a get (RULES, Bytes of a message).
use Rattle.std.specs.Prelude.{ℕ, Bool, true, false, cond, eqb}
use Rattle.chip.specs.Kinds.{is_driver}
use Rattle.chip.specs.Registers.{input}
use Rattle.chip.specs.Control.{control_moved}
use Rattle.chip.specs.Values.{read_byte}
use Rattle.device.specs.Fields.{with_stage, with_control}
use Rattle.device.specs.Registers.{held, pointer}
use Rattle.device.specs.Output.{input_byte}
use Rattle.device.specs.declared.Device.{Device}
use Rattle.device.specs.declared.Phase.{Phase}
use Rattle.device.specs.declared.Phase.TheVariants as P
use Rattle.device.specs.declared.Stage.{Stage}
use Rattle.device.specs.declared.Stage.TheVariants.{Unselected, Control, Data, Talking, ResetCall, ResetFirst, ResetBoth}

-- the rules' "talking"
abbrev pub is_talking : Stage → Bool
is_talking Unselected = false
is_talking Control = false
is_talking Data = false
is_talking Talking = true
is_talking ResetCall = false
is_talking ResetFirst = false
is_talking ResetBoth = false

unfoldable pub register_byte : Device → ℕ
register_byte d = read_byte d.chip d.control (held d (pointer d))

-- the pointed register as it reads; a blinker's INPUT comes from its lamps and the outside levels
unfoldable pub pointed_byte : Device → ℕ
pointed_byte d = cond (is_driver d.chip) (register_byte d) (cond (eqb (pointer d) input) (input_byte d) (register_byte d))

-- what the device puts on the bus, the rules' "talking": one that does not talk leaves every bit 1
unfoldable pub talk_of : Device → ℕ
talk_of d = cond (is_talking d.stage) (pointed_byte d) 255

unfoldable pub after_talk : Device → Device
after_talk d = cond (is_talking d.stage) (with_control d (control_moved d.chip d.control)) d

-- the device after the get: the pointer of one that talks has moved, and after ack 0 no device talks
unfoldable pub after_get : Bool → Device → Device
after_get ack d = cond ack (after_talk d) (with_stage (after_talk d) Unselected)

-- a get with ack 0 ends the read
abbrev pub phase_after_get : Bool → Phase
phase_after_get ack = cond ack P.Read P.Ended

-- Which records can be handed in (RULES, Refusals, 4).
use Rattle.std.specs.Prelude.{Bool, true, false, ◌&&◌, leb}
use Rattle.lamp.specs.Window.{count_limit}
use Rattle.chip.specs.Addresses.{address_allowed}
use Rattle.chip.specs.Control.{control_legal}
use Rattle.device.specs.declared.Device.{Device}
use Rattle.device.specs.declared.Phase.{Phase}
use Rattle.device.specs.declared.Phase.TheVariants as P
use Rattle.device.specs.declared.Stage.{Stage}
use Rattle.device.specs.declared.Stage.TheVariants.{Unselected, Control, Data, Talking, ResetCall, ResetFirst, ResetBoth}

-- the control byte and the address are legal for the kind, and the count is at most 2^48
unfoldable pub record_ok : Device → Bool
record_ok d = control_legal d.chip d.control && address_allowed d.chip d.address && leb d.count count_limit

abbrev pub is_write : Phase → Bool
is_write P.Idle = false
is_write P.Address = false
is_write P.Write = true
is_write P.Read = false
is_write P.Ended = false

abbrev pub is_read : Phase → Bool
is_read P.Idle = false
is_read P.Address = false
is_read P.Write = false
is_read P.Read = true
is_read P.Ended = false

-- the rules' "listening", which the software reset call counts as, only in an open write; their "talking" only in an open read
abbrev pub stage_fits : Phase → Stage → Bool
stage_fits p Unselected = true
stage_fits p Control = is_write p
stage_fits p Data = is_write p
stage_fits p ResetCall = is_write p
stage_fits p ResetFirst = is_write p
stage_fits p ResetBoth = is_write p
stage_fits p Talking = is_read p

unfoldable pub well_formed : Phase → Device → Bool
well_formed p d = record_ok d && stage_fits p d.stage

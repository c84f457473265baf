-- A byte that the master puts, by the message's phase: the first after START is the address byte, the others of a write are its bytes.
use Rattle.std.specs.Prelude.{ℕ, Bool, true, false}
use Rattle.device.specs.Fields.{with_stage}
use Rattle.protocol.specs.Selection.{stage_after_address}
use Rattle.protocol.specs.Write.{after_byte, acks_data}
use Rattle.device.specs.declared.Device.{Device}
use Rattle.device.specs.declared.Phase.{Phase}
use Rattle.device.specs.declared.Phase.TheVariants as P
use Rattle.device.specs.declared.Stage.{Stage}
use Rattle.device.specs.declared.Stage.TheVariants.{Unselected, Control, Data, Talking, ResetCall, ResetFirst, ResetBoth}

abbrev pub is_selected : Stage → Bool
is_selected Unselected = false
is_selected Control = true
is_selected Data = true
is_selected Talking = true
is_selected ResetCall = true
is_selected ResetFirst = true
is_selected ResetBoth = true

-- the device after the byte
unfoldable pub after_put : Phase → ℕ → Device → Device
after_put P.Address byte d = with_stage d (stage_after_address d byte)
after_put P.Write byte d = after_byte byte d
after_put P.Idle byte d = d
after_put P.Read byte d = d
after_put P.Ended byte d = d

-- whether it acknowledges the byte: the address byte by being selected
unfoldable pub acks_to : Phase → ℕ → Device → Bool
acks_to P.Address byte d = is_selected (stage_after_address d byte)
acks_to P.Write byte d = acks_data byte d
acks_to P.Idle byte d = false
acks_to P.Read byte d = false
acks_to P.Ended byte d = false

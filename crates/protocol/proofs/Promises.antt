-- Whatever happens on the bus leaves a well-formed record well formed, in the phase that the message then has.
use Rattle.std.specs.Prelude.{◌≡◌, true}
use Rattle.device.specs.WellFormed.{well_formed}
use Rattle.device.proofs.laws.WellFormed.{well_formed_ok}
use Rattle.device.specs.declared.Device.{Device}
use Rattle.device.specs.declared.Phase.{Phase}
use Rattle.protocol.specs.Signals.{in_turn, phase_after_signal, after_signal}
use Rattle.protocol.proofs.laws.WellFormed.{started_well, stopped_well, put_well, get_well}
use Rattle.protocol.specs.declared.Signal.{Signal}
use Rattle.protocol.specs.declared.Signal.TheVariants.{Start, Stop, Put, Get}

-- any signal that is in turn
pub signal_well : (p : Phase) (s : Signal) (d : Device) → in_turn p s ≡ true → well_formed p d ≡ true → well_formed (phase_after_signal p s) (after_signal p s d) ≡ true
unfolding phase_after_signal after_signal
signal_well p Start d t h = started_well d (well_formed_ok p d h)
signal_well p Stop d t h = stopped_well d (well_formed_ok p d h)
signal_well p (Put byte) d t h = put_well p byte d t h
signal_well p (Get ack) d t h = get_well p ack d t h

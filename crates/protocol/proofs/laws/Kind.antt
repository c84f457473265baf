-- No signal changes what kind of chip a device is.
use Rattle.std.specs.Prelude.{◌≡◌, refl, Bool, true, false, ◌&&◌, ℕ}
use Rattle.basics.specs.laws.Logic.{tested, holds, fails}
use Rattle.chip.specs.Kinds.{is_driver}
use Rattle.chip.specs.Control.{control_legal}
use Rattle.device.specs.Registers.{is_awake}
use Rattle.device.specs.Reset.{after_reset}
use Rattle.device.specs.declared.Device.{Device}
use Rattle.device.specs.declared.Phase.{Phase}
use Rattle.device.specs.declared.Phase.TheVariants as P
use Rattle.device.specs.declared.Stage.{Stage}
use Rattle.device.specs.declared.Stage.TheVariants.{Unselected, Control, Data, Talking, ResetCall, ResetFirst, ResetBoth}
use Rattle.protocol.specs.Write.{after_control, after_data, after_byte_at, after_byte}
use Rattle.protocol.specs.Put.{after_put}
use Rattle.protocol.specs.Read.{is_talking, after_talk, after_get}
use Rattle.protocol.specs.Stop.{after_commit, took_reset, after_stop}
use Rattle.protocol.specs.Signals.{after_signal}
use Rattle.protocol.specs.declared.Signal.{Signal}
use Rattle.protocol.specs.declared.Signal.TheVariants as S

byte_kind : (s : Stage) (byte : ℕ) (d : Device) → (after_byte_at s byte d).chip ≡ d.chip
unfolding after_control after_data
byte_kind Unselected byte d = refl
byte_kind Control byte d = elim (tested (control_legal d.chip byte)) [ holds e ↦ rw e | fails e ↦ rw e ]
byte_kind Data byte d = refl
byte_kind Talking byte d = refl
byte_kind ResetCall byte d = refl
byte_kind ResetFirst byte d = refl
byte_kind ResetBoth byte d = refl

put_kind : (p : Phase) (byte : ℕ) (d : Device) → (after_put p byte d).chip ≡ d.chip
unfolding after_put after_byte
put_kind P.Idle byte d = refl
put_kind P.Address byte d = refl
put_kind P.Write byte d = byte_kind d.stage byte d
put_kind P.Read byte d = refl
put_kind P.Ended byte d = refl

talk_kind : (d : Device) → (after_talk d).chip ≡ d.chip
unfolding after_talk
talk_kind d = elim (tested (is_talking d.stage)) [ holds e ↦ rw e | fails e ↦ rw e ]

get_kind : (ack : Bool) (d : Device) → (after_get ack d).chip ≡ d.chip
unfolding after_get
get_kind true d = talk_kind d
get_kind false d = talk_kind d

commit_kind : (d : Device) → (after_commit d).chip ≡ d.chip
unfolding after_commit
commit_kind d = elim (tested (is_driver d.chip && is_awake d)) [ holds e ↦ rw e | fails e ↦ rw e ]

stop_kind : (d : Device) → (after_stop d).chip ≡ d.chip
unfolding after_stop after_reset
stop_kind d =
    elim (tested (is_driver d.chip && took_reset d.stage)) [ holds e ↦ rw e | fails e ↦ rw e (commit_kind d) ]

pub signal_kind : (p : Phase) (s : Signal) (d : Device) → (after_signal p s d).chip ≡ d.chip
unfolding after_signal
signal_kind p S.Start d = refl
signal_kind p S.Stop d = stop_kind d
signal_kind p (S.Put byte) d = put_kind p byte d
signal_kind p (S.Get ack) d = get_kind ack d

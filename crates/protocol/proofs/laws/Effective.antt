-- With OCH 0 no byte that is put changes what is in effect, and no get ever does.
use Rattle.std.specs.Prelude.{◌≡◌, refl, Bool, true, false, ◌&&◌, ℕ}
use Rattle.std.proofs.Math.Bool.{and-false}
use Rattle.basics.specs.laws.Logic.{tested, holds, fails}
use Rattle.chip.specs.Registers.{is_buffered}
use Rattle.chip.specs.Control.{control_legal}
use Rattle.device.specs.Registers.{pointer, is_awake, is_och}
use Rattle.device.specs.declared.Device.{Device}
use Rattle.device.specs.declared.Phase.{Phase}
use Rattle.device.specs.declared.Phase.TheVariants as P
use Rattle.device.specs.declared.Stage.{Stage}
use Rattle.device.specs.declared.Stage.TheVariants.{Unselected, Control, Data, Talking, ResetCall, ResetFirst, ResetBoth}
use Rattle.protocol.specs.Write.{after_control, effective_after_data, after_data, after_byte_at, after_byte}
use Rattle.protocol.specs.Put.{after_put}
use Rattle.protocol.specs.Read.{is_talking, after_talk, after_get}

data_same : (byte : ℕ) (d : Device) → is_och d ≡ false → (after_data byte d).effective ≡ d.effective
unfolding after_data effective_after_data
data_same byte d o = rw (o, and-false (is_buffered d.chip (pointer d) && is_awake d)) refl

control_same : (byte : ℕ) (d : Device) → (after_control byte d).effective ≡ d.effective
unfolding after_control
control_same byte d = elim (tested (control_legal d.chip byte)) [ holds e ↦ rw e | fails e ↦ rw e ]

byte_same : (byte : ℕ) (d : Device) (s : Stage) → is_och d ≡ false → (after_byte_at s byte d).effective ≡ d.effective
byte_same byte d Unselected o = refl
byte_same byte d Control o = control_same byte d
byte_same byte d Data o = data_same byte d o
byte_same byte d Talking o = refl
byte_same byte d ResetCall o = refl
byte_same byte d ResetFirst o = refl
byte_same byte d ResetBoth o = refl

pub put_same : (p : Phase) (byte : ℕ) (d : Device) → is_och d ≡ false → (after_put p byte d).effective ≡ d.effective
unfolding after_put after_byte
put_same P.Address byte d o = refl
put_same P.Write byte d o = byte_same byte d d.stage o
put_same P.Idle byte d o = refl
put_same P.Read byte d o = refl
put_same P.Ended byte d o = refl

talk_same : (d : Device) → (after_talk d).effective ≡ d.effective
unfolding after_talk
talk_same d = elim (tested (is_talking d.stage)) [ holds e ↦ rw e | fails e ↦ rw e ]

pub get_same : (ack : Bool) (d : Device) → (after_get ack d).effective ≡ d.effective
unfolding after_get
get_same true d = talk_same d
get_same false d = talk_same d

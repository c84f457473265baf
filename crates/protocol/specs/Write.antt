-- What a device does at each byte of a write (RULES, Bytes of a message and In effect).
use Rattle.std.specs.Prelude.{ℕ, Bool, true, false, not, ◌&&◌, cond, List, eqb, set}
use Rattle.basics.specs.Bits.{bit}
use Rattle.chip.specs.Kinds.{is_driver}
use Rattle.chip.specs.Registers.{mode1, is_buffered}
use Rattle.chip.specs.Control.{control_legal, control_moved}
use Rattle.chip.specs.Values.{stored_byte}
use Rattle.device.specs.Fields.{with_stage, with_control, with_count, with_written, with_effective}
use Rattle.device.specs.Registers.{held, pointer, is_sleep, is_awake, is_och}
use Rattle.device.specs.declared.Device.{Device}
use Rattle.device.specs.declared.Stage.{Stage}
use Rattle.device.specs.declared.Stage.TheVariants.{Unselected, Control, Data, Talking, ResetCall, ResetFirst, ResetBoth}

-- ---- the control byte: an illegal one is not acknowledged, the old one stays, and the device is deaf till START

unfoldable pub after_control : ℕ → Device → Device
after_control byte d = cond (control_legal d.chip byte) (with_control (with_stage d Data) byte) (with_stage d Unselected)

-- ---- a data byte: it goes into the pointed register, then the pointer moves

-- what the pointed register then holds
unfoldable pub new_byte : ℕ → Device → ℕ
new_byte byte d = stored_byte d.chip (pointer d) (held d (pointer d)) byte

-- with OCH = 1 and awake, the byte takes effect at its acknowledge
unfoldable pub effective_after_data : ℕ → Device → List ℕ
effective_after_data byte d =
    cond (is_buffered d.chip (pointer d) && is_awake d && is_och d)
    (set d.effective (pointer d) (new_byte byte d))
    d.effective

-- clearing SLEEP from 1 sets the count to 0
unfoldable pub wakes : ℕ → Device → Bool
wakes byte d = is_driver d.chip && eqb (pointer d) mode1 && is_sleep d && not (bit 4 byte)

unfoldable pub count_after_data : ℕ → Device → ℕ
count_after_data byte d = cond (wakes byte d) 0 d.count

unfoldable pub after_data : ℕ → Device → Device
after_data byte d =
    with_control
    (with_count
    (with_effective
    (with_written d (set d.written (pointer d) (new_byte byte d)))
    (effective_after_data byte d))
    (count_after_data byte d))
    (control_moved d.chip d.control)

-- ---- the software reset call: A5h and 5Ah are taken in that order; anything else, or a third byte, ends the call. A blinker takes no part in it

abbrev pub is_call_byte : ℕ → ℕ → Device → Bool
is_call_byte due byte d = is_driver d.chip && eqb byte due

-- ---- by stage

abbrev pub after_byte_at : Stage → ℕ → Device → Device
after_byte_at Unselected byte d = d
after_byte_at Control byte d = after_control byte d
after_byte_at Data byte d = after_data byte d
after_byte_at Talking byte d = d
after_byte_at ResetCall byte d = with_stage d (cond (is_call_byte 165 byte d) ResetFirst Unselected)
after_byte_at ResetFirst byte d = with_stage d (cond (is_call_byte 90 byte d) ResetBoth Unselected)
after_byte_at ResetBoth byte d = with_stage d Unselected

-- the device after a byte of a write
unfoldable pub after_byte : ℕ → Device → Device
after_byte byte d = after_byte_at d.stage byte d

abbrev pub acks_at : Stage → ℕ → Device → Bool
acks_at Unselected byte d = false
acks_at Control byte d = control_legal d.chip byte
acks_at Data byte d = true
acks_at Talking byte d = false
acks_at ResetCall byte d = is_call_byte 165 byte d
acks_at ResetFirst byte d = is_call_byte 90 byte d
acks_at ResetBoth byte d = false

-- whether it acknowledges the byte
unfoldable pub acks_data : ℕ → Device → Bool
acks_data byte d = acks_at d.stage byte d

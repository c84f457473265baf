-- A device's registers: as written, and as in effect (RULES, In effect).
use Rattle.std.specs.Prelude.{ℕ, ◌%◌, Bool, not, ◌&&◌, cond, get_or}
use Rattle.basics.specs.Bits.{bit}
use Rattle.chip.specs.Kinds.{is_driver}
use Rattle.chip.specs.Registers.{mode1, mode2, pointed, is_buffered}
use Rattle.device.specs.declared.Device.{Device}

-- a register as written
abbrev pub held : Device → ℕ → ℕ
held d r = get_or d.written r 0

-- a register as the rules' "in effect": PWM0 through LEDOUT of a driver have a copy for it, every other register acts at once
unfoldable pub in_effect : Device → ℕ → ℕ
in_effect d r = cond (is_buffered d.chip r) (get_or d.effective r 0) (held d r)

-- the register at which the control byte points
abbrev pub pointer : Device → ℕ
pointer d = pointed d.chip d.control

-- ---- MODE1 and MODE2

abbrev pub is_sleep : Device → Bool
is_sleep d = bit 4 (held d mode1)

-- the rules' "awake": SLEEP 0; a blinker is always awake
unfoldable pub is_awake : Device → Bool
is_awake d = not (is_driver d.chip && is_sleep d)

abbrev pub is_blinking : Device → Bool
is_blinking d = bit 5 (held d mode2)

abbrev pub is_inverted : Device → Bool
is_inverted d = bit 4 (held d mode2)

-- OCH: outputs change at the acknowledge
abbrev pub is_och : Device → Bool
is_och d = bit 3 (held d mode2)

-- OUTDRV: totem pole, not open drain
abbrev pub is_totem_pole : Device → Bool
is_totem_pole d = bit 2 (held d mode2)

abbrev pub outne : Device → ℕ
outne d = held d mode2 % 4

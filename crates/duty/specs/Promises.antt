-- The words of the theorems on demand 3: what a bound says of a window, and that it is reached.
use Rattle.std.specs.Prelude.{◌≡◌, ℕ, ◌+◌, ◌*◌, ◌≤◌}
use Rattle.lamp.specs.Window.{count_limit}
use Rattle.device.specs.declared.Device.{Device}
use Rattle.bus.specs.Devices.{device_at}
use Rattle.bus.specs.Events.{lit_reply}
use Rattle.bus.specs.declared.Bus.{Bus}
use Rattle.duty.specs.Output.{Stands}

-- S times the lit ticks and w * K differ by at most B
abbrev pub Within : ℕ → ℕ → ℕ → ℕ → ℕ → Type 0
Within S K B w lit = (S * lit ≤ w * K + B) × (w * K ≤ S * lit + B)

-- a window that every such bus answers so: lit is accepted, and its value is this far from the duty
abbrev pub Reached : (Device → ℕ → Type 0) → (ℕ → ℕ → Type 0) → Type 0
Reached set far =
    (t : ℕ) × (w : ℕ) × (t + w ≤ count_limit) × ((b : Bus) (dev out : ℕ) → Stands b dev out t → set (device_at b dev) out → ((lit_reply b dev out w).code ≡ 0) × far w (lit_reply b dev out w).value)

abbrev pub Above : ℕ → ℕ → ℕ → ℕ → ℕ → Type 0
Above S K B w lit = S * lit ≡ w * K + B

abbrev pub Below : ℕ → ℕ → ℕ → ℕ → ℕ → Type 0
Below S K B w lit = w * K ≡ S * lit + B

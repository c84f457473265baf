-- The buses of which `Promises` speaks exist: for each driver, each of its outputs, each tick and each brightness a well-formed bus on which that output is so set;
-- and for each blink period one that answers a lit for it, from each tick from which it ends by the limit.
use Rattle.std.specs.Prelude.{◌≡◌, refl, true, ℕ, ◌+◌, ◌*◌, ◌≤◌, ◌<◌}
use Rattle.std.proofs.Common.{arith}
use Rattle.lamp.specs.Window.{count_limit}
use Rattle.chip.specs.Kinds.{is_driver, outputs_of}
use Rattle.chip.specs.declared.Chip.{Chip}
use Rattle.bus.specs.Devices.{device_at}
use Rattle.bus.specs.Events.{lit_reply}
use Rattle.duty.specs.Output.{Individual, Dimmed, Blinking, Stands}
use Rattle.duty.specs.laws.Lit.{lit_accepted}
use Rattle.duty.specs.laws.Witness.{individually, dimmedly, blinkingly, bus_set, stands, output, dimming, frequency, blinking_is, pair_10, pair_11}
use Rattle.bus.specs.declared.Bus.{Bus}

pub individual_exists : (chip : Chip) → is_driver chip ≡ true → (out : ℕ) → out < outputs_of chip → (t : ℕ) → t ≤ count_limit → (N : ℕ) → (b : Bus) × ((device_at b 0).chip ≡ chip) × Stands b 0 out t × Individual (device_at b 0) out N
individual_exists chip driver out h t k N =
    let s = individually out N in (bus_set chip t s, refl, stands chip driver t s h k, output chip driver t s h 2 (pair_10 out))

pub dimmed_exists : (chip : Chip) → is_driver chip ≡ true → (out : ℕ) → out < outputs_of chip → (t : ℕ) → t ≤ count_limit → (M N : ℕ) → (b : Bus) × ((device_at b 0).chip ≡ chip) × Stands b 0 out t × Dimmed (device_at b 0) out M N
dimmed_exists chip driver out h t k M N =
    let s = dimmedly out M N in (
      bus_set chip t s,
      refl,
      stands chip driver t s h k,
      record { output = output chip driver t s h 3 (pair_11 out); dimming = dimming chip driver t s h; steady = blinking_is chip t s },
    )

pub blink_period_exists : (chip : Chip) → is_driver chip ≡ true → (out : ℕ) → out < outputs_of chip → (G M N t : ℕ) → t + (G + 1) * 1048576 ≤ count_limit → (b : Bus) × ((device_at b 0).chip ≡ chip) × Stands b 0 out t × Blinking (device_at b 0) out G M N × ((lit_reply b 0 out ((G + 1) * 1048576)).code ≡ 0)
blink_period_exists chip driver out h G M N t k =
    let s = blinkingly out G M N in
    let at = stands chip driver t s h (omega arith) in (
      bus_set chip t s,
      refl,
      at,
      record { output = output chip driver t s h 3 (pair_11 out); dimming = dimming chip driver t s h; frequency = frequency chip driver t s h; blinks = blinking_is chip t s },
      lit_accepted (bus_set chip t s) 0 out t ((G + 1) * 1048576) at k,
    )

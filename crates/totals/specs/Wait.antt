-- A wait of a device with its totals (RULES, Totals, and Refusals, 6).
use Rattle.std.specs.Prelude.{ℕ, ◌-◌, Bool, not, ◌&&◌, ◌||◌, cond}
use Rattle.lamp.specs.Duration.{amount}
use Rattle.lamp.specs.declared.Duration.{Duration}
use Rattle.chip.specs.Kinds.{outputs_of}
use Rattle.device.specs.Output.{lit_of}
use Rattle.device.specs.Wait.{is_own, is_too_long, is_too_long_for, after_wait}
use Rattle.totals.specs.Totals.{record_of, totals_fit, raised}
use Rattle.totals.specs.declared.Record.{Record}

-- ---- a number of the device's own unit

-- too long for a lit question, or too much for an output's two totals together
unfoldable pub exceeds : Record → ℕ → Bool
exceeds r w = is_too_long r.device w || not (totals_fit r w)

-- each output's lit total grows by what a lit question just before answers, and its unlit total by the rest of the wait
unfoldable pub waited : Record → ℕ → Record
waited r w =
    record_of (after_wait r.device w) (raised (outputs_of r.device.chip) (λ out. lit_of r.device out w) r.lit)
    (raised (outputs_of r.device.chip) (λ out. w - lit_of r.device out w) r.unlit)

-- ---- a duration, which says its unit

abbrev pub exceeds_for : Record → Duration → Bool
exceeds_for r w = is_too_long_for r.device w || is_own r.device.chip w && not (totals_fit r (amount w))

abbrev pub waited_for : Record → Duration → Record
waited_for r w = cond (is_own r.device.chip w) (waited r (amount w)) r

-- How long each output of a device was lit, and unlit, in the device's own unit: ticks of a driver, steps of a blinker (RULES, Totals).
use Rattle.std.specs.Prelude.{ℕ, ◌+◌, ◌^◌, Bool, ◌&&◌, cond, List, leb, ltb, get_or, replicate}
use Rattle.basics.specs.Below.{all_below}
use Rattle.basics.specs.Tabulate.{tabulate}
use Rattle.chip.specs.Kinds.{outputs_of}
use Rattle.device.specs.WellFormed.{record_ok, well_formed}
use Rattle.device.specs.declared.Device.{Device}
use Rattle.device.specs.declared.Phase.{Phase}
use Rattle.totals.specs.declared.Record.{Record}

-- the largest that the two totals of an output are together
abbrev pub total_limit : ℕ
total_limit = 2 ^ 56

abbrev pub record_of : Device → List ℕ → List ℕ → Record
record_of d lit unlit = record { device = d; lit = lit; unlit = unlit }

-- those of a device that was just added
abbrev pub zeros : List ℕ
zeros = replicate 16 0

-- of the first n outputs, each one's two totals and w more are together at most the limit
unfoldable pub totals_within : ℕ → List ℕ → List ℕ → ℕ → Bool
totals_within n lit unlit w = all_below n (λ out. leb (get_or lit out 0 + get_or unlit out 0 + w) total_limit)

-- the same of the outputs that the chip has; entries past them are not judged
abbrev pub totals_fit : Record → ℕ → Bool
totals_fit r w = totals_within (outputs_of r.device.chip) r.lit r.unlit w

-- which records can be handed in, by themselves and in a message's phase (RULES, Refusals, 4)
abbrev pub legal_record : Record → Bool
legal_record r = record_ok r.device && totals_fit r 0

abbrev pub legal_in : Phase → Record → Bool
legal_in p r = well_formed p r.device && totals_fit r 0

-- 16 totals, of which each of the first n has grown by f of its output
unfoldable pub raised : ℕ → (ℕ → ℕ) → List ℕ → List ℕ
raised n f l = tabulate 16 (λ out. get_or l out 0 + cond (ltb out n) (f out) 0)

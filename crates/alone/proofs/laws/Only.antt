-- A bus with one device: its record, its well-formedness, and what a signal and a change of the device make of it.
use Rattle.std.specs.Prelude.{◌≡◌, true, length, refl}
use Rattle.std.proofs.Common.{ap, ◌∙◌, arith}
use Rattle.basics.specs.Below.{all_below}
use Rattle.basics.specs.First.{map_first, all_first}
use Rattle.basics.specs.laws.Parts.{with_twice}
use Rattle.device.specs.WellFormed.{well_formed}
use Rattle.device.specs.declared.Phase.{Phase}
use Rattle.totals.specs.Totals.{totals_fit}
use Rattle.totals.specs.declared.Record.{Record}
use Rattle.protocol.specs.Signals.{phase_after_signal, after_signal}
use Rattle.protocol.specs.declared.Signal.{Signal}
use Rattle.bus.specs.Devices.{bus_ok, has_device, record_at, with_record, bus_after, empty_bus}
use Rattle.bus.specs.Place.{with_chip}
use Rattle.bus.proofs.laws.Records.{record_here}
use Rattle.bus.specs.declared.Bus.{Bus}
use Rattle.alone.specs.Alone.{only}

module _ (p : Phase) (r : Record) where
  -- with no record put in yet
  abbrev spare : Bus
  spare = record { phase = p; count = 1; devices = empty_bus.devices; lit = empty_bus.lit; unlit = empty_bus.unlit }

  pub only_phase : (only p r).phase ≡ p
  unfolding only
  only_phase = refl

  pub only_there : has_device (only p r) 0 ≡ true
  unfolding only
  only_there = refl

  -- one function at each device, of which there is one
  pub only_after : (s : Signal) → bus_after s (only p r) ≡ only (phase_after_signal p s) (with_chip r (after_signal p s r.device))
  unfolding only map_first
  only_after s = refl

  pub only_with : (next : Record) → with_record (only p r) 0 next ≡ only p next
  unfolding only
  only_with next = rw (with_twice 8 16 0 next.lit r.lit _, with_twice 8 16 0 next.unlit r.unlit _) refl

  module _ (lit_long : length r.lit ≡ 16) (unlit_long : length r.unlit ≡ 16) where
    pub only_record : record_at (only p r) 0 ≡ r
    unfolding only
    only_record = record_here spare 0 r lit_long unlit_long (omega arith) (omega arith)

    only_fits : totals_fit r 0 ≡ true → totals_fit (record_at (only p r) 0) 0 ≡ true
    only_fits t = ap (λ (x : Record). totals_fit x 0) only_record ∙ t

    pub only_well : well_formed p r.device ≡ true → totals_fit r 0 ≡ true → bus_ok (only p r) ≡ true
    unfolding only bus_ok all_first all_below
    only_well d t = rw (d, only_fits t) refl

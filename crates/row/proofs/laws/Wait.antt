-- A wait of a lent record is the wait of that device on a well-formed bus.
use Rattle.std.specs.Prelude.{◌≡◌, true, ℕ, ◌<◌, eqb, length}
use Rattle.std.proofs.Math.Path.{refl}
use Rattle.std.proofs.Common.{sym, eqb-true}
use Rattle.basics.specs.laws.Logic.{holds, fails, tested}
use Rattle.device.proofs.laws.WellFormed.{well_formed_ok}
use Rattle.totals.specs.Totals.{legal_record}
use Rattle.totals.specs.Wait.{waited}
use Rattle.totals.proofs.laws.Raised.{raised_long}
use Rattle.totals.specs.declared.Record.{Record}
use Rattle.refusals.specs.Refusals.{least, code_of}
use Rattle.bus.specs.Devices.{bus_ok, has_device, record_at, with_record}
use Rattle.bus.specs.Place.{change_refusals, after_change}
use Rattle.bus.specs.Replies.{answer}
use Rattle.bus.specs.Events.{step_reply, step_refusals, step_done, wait_reply}
use Rattle.bus.proofs.laws.Records.{record_here}
use Rattle.bus.proofs.laws.Steps.{below_eight}
use Rattle.bus.proofs.laws.WellFormed.{device_well, at_fits}
use Rattle.bus.specs.declared.Bus.{Bus}
use Rattle.bus.specs.declared.Change.TheVariants.{Wait}
use Rattle.bus.specs.declared.Event.TheVariants.{Change}
use Rattle.row.specs.Wait.{record_refusals, wait_answer, wait_record}

module _ (b : Bus) (dev ticks : ℕ) (ok : bus_ok b ≡ true) (there : has_device b dev ≡ true) where
  abbrev at : Record
  at = record_at b dev

  legal : legal_record at ≡ true
  legal =
      rw (well_formed_ok b.phase at.device (device_well b dev ok there), at_fits b dev ok there) refl

  same_code : code_of (step_refusals b (Change dev (Wait ticks))) ≡ code_of (record_refusals at ticks)
  unfolding step_refusals change_refusals code_of least
  same_code = rw (ok, there, legal) refl

  stored : dev < length b.devices → record_at (with_record b dev (waited at ticks)) dev ≡ waited at ticks
  unfolding waited
  stored l =
      record_here b dev (waited at ticks) (raised_long _ at.lit _) (raised_long _ at.unlit _) (below_eight b dev there) l

  pub is_wait_lem : dev < length b.devices
      → ((wait_reply b dev ticks).code ≡ (wait_answer (record_at b dev) ticks).code)
      × (((wait_reply b dev ticks).value ≡ (wait_answer (record_at b dev) ticks).value)
      × (record_at (wait_reply b dev ticks).bus dev ≡ wait_record (record_at b dev) ticks))
  unfolding step_reply step_done after_change answer wait_answer wait_record
  is_wait_lem l =
      let k = code_of (record_refusals at ticks) in
      rw same_code
      (elim (tested (eqb k 0)) [
        | holds e ↦ rw e (sym (eqb-true k 0 e), (refl, stored l))
        | fails e ↦ rw e (refl, (refl, refl))
      ])

-- Promises on the lent forms, for any record and any row: they answer as the calls on a bus do.
use Rattle.std.specs.Prelude.{◌≡◌, refl, true, ◌&&◌, List, map, ℕ, ◌≤◌, ◌<◌, ltb, length, get_or}
use Rattle.basics.specs.Bits.{bit}
use Rattle.device.specs.declared.Phase.{Phase}
use Rattle.totals.specs.declared.Record.{Record}
use Rattle.protocol.specs.Put.{acks_to}
use Rattle.refusals.specs.Refusals.{code_of}
use Rattle.refusals.specs.laws.Refusals.{Exact, exact}
use Rattle.bus.specs.Devices.{bus_ok, has_device, record_at}
use Rattle.bus.specs.Events.{step_reply, wait_reply}
use Rattle.bus.specs.declared.Bus.{Bus}
use Rattle.bus.specs.declared.Event.TheVariants.{Signal}
use Rattle.bus.specs.declared.SignalEvent.{SignalEvent}
use Rattle.bus.specs.declared.SignalEvent.TheVariants.{Put}
use Rattle.row.specs.Wait.{record_refusals, wait_answer, wait_record}
use Rattle.row.specs.Row.{row_replied, row_reply, row_after}
use Rattle.row.specs.Records.{row_refusals, records_of, RowIs}
use Rattle.row.proofs.laws.Refitted.{keeps_totals}
use Rattle.row.proofs.laws.Row.{is_row, is_bus, is_code, is_set}
use Rattle.row.proofs.laws.Wait.{is_wait_lem}

-- ---- a row

-- the code is the least number whose condition holds; refused, the phase and every record stay; otherwise each record takes the signal
pub row_is : (rs : List Record) (p : Phase) (e : SignalEvent) → RowIs rs p e (code_of (row_refusals rs p e))
row_is = is_row

pub row_exact : (rs : List Record) (p : Phase) (e : SignalEvent) → Exact (row_refusals rs p e) (row_reply rs p e).code
row_exact rs p e = exact (row_refusals rs p e) (row_reply rs p e).code (is_code rs p e)

-- no event on a row changes a total
pub row_keeps_totals : (rs : List Record) (p : Phase) (e : SignalEvent)
    → (map (λ (r : Record). r.lit) (row_after rs p e) ≡ map (λ (r : Record). r.lit) rs) × (map (λ (r : Record). r.unlit) (row_after rs p e) ≡ map (λ (r : Record). r.unlit) rs)
row_keeps_totals = keeps_totals

-- bit i of an accepted put's value is set exactly when there is a record i and its device acknowledges
pub row_set : (rs : List Record) (p : Phase) (byte i : ℕ) (z : Record) → (row_reply rs p (Put byte)).code ≡ 0 → bit i (row_reply rs p (Put byte)).value ≡ (ltb i (length rs) && acks_to p byte (get_or rs i z).device)
row_set = is_set

-- the row call on a bus's records and the call on that bus agree, whatever stands at the places past the count
pub row_as_bus : (b : Bus) (e : SignalEvent) → b.count ≤ 8 → b.count ≤ length b.devices
    → (row_reply (records_of b) b.phase e ≡ row_replied (step_reply b (Signal e))) × (row_after (records_of b) b.phase e ≡ records_of (step_reply b (Signal e)).bus)
row_as_bus = is_bus

-- ---- one record

pub record_exact : (r : Record) (ticks : ℕ) → Exact (record_refusals r ticks) (wait_answer r ticks).code
unfolding wait_answer
record_exact r ticks = exact (record_refusals r ticks) (wait_answer r ticks).code refl

-- the wait of a lent record answers as the wait of that device on a well-formed bus does, and leaves the record as it does
pub wait_as_bus : (b : Bus) (dev ticks : ℕ) → bus_ok b ≡ true → has_device b dev ≡ true → dev < length b.devices
    → ((wait_reply b dev ticks).code ≡ (wait_answer (record_at b dev) ticks).code)
    × (((wait_reply b dev ticks).value ≡ (wait_answer (record_at b dev) ticks).value)
    × (record_at (wait_reply b dev ticks).bus dev ≡ wait_record (record_at b dev) ticks))
wait_as_bus = is_wait_lem

-- A signal on a row, said from the phase and the records alone: the words of the promises.
use Rattle.std.specs.Prelude.{◌≡◌, not, cond, List, [], ◌∷◌, ◌++◌, map, ℕ, zero, suc, ltb, eqb, length}
use Rattle.basics.specs.Bits.{mask}
use Rattle.basics.specs.First.{all, and_of}
use Rattle.device.specs.declared.Device.{Device}
use Rattle.device.specs.declared.Phase.{Phase}
use Rattle.totals.specs.Totals.{legal_in}
use Rattle.totals.specs.declared.Record.{Record}
use Rattle.protocol.specs.Put.{acks_to}
use Rattle.protocol.specs.Read.{talk_of}
use Rattle.protocol.specs.Signals.{in_turn, phase_after_signal, after_signal}
use Rattle.refusals.specs.Refusals.{Refusal, refuse}
use Rattle.bus.specs.Devices.{record_at}
use Rattle.bus.specs.Place.{with_chip}
use Rattle.bus.specs.Signals.{signal_of, is_too_large}
use Rattle.bus.specs.declared.Bus.{Bus}
use Rattle.bus.specs.declared.SignalEvent.{SignalEvent}
use Rattle.bus.specs.declared.SignalEvent.TheVariants.{Start, Stop, Put, Get}
use Rattle.row.specs.Row.{devices_of, refused_row, row_reply, row_after}
use Rattle.row.specs.declared.RowReply.{RowReply}

-- the device takes the signal, and the totals stay
abbrev pub record_after : Phase → SignalEvent → Record → Record
record_after p e r = with_chip r (after_signal p (signal_of e) r.device)

-- a put's value is the set of the devices that acknowledge, bit i for record i; a get's the AND of all that talk
abbrev pub row_value : List Device → Phase → SignalEvent → ℕ
row_value ds p Start = 0
row_value ds p Stop = 0
row_value ds p (Put byte) = mask 1 (acks_to p byte) ds
row_value ds p (Get ack) = and_of talk_of ds 255

-- the reply where nothing is refused
abbrev pub done_row : List Record → Phase → SignalEvent → RowReply
done_row rs p e = record { code = 0; value = row_value (devices_of rs) p e; phase = phase_after_signal p (signal_of e) }

abbrev pub row_refusals : List Record → Phase → SignalEvent → List Refusal
row_refusals rs p e =
    refuse 3 (ltb 8 (length rs))
    ∷ refuse 4 (not (all (legal_in p) rs))
    ∷ refuse 5 (not (in_turn p (signal_of e)))
    ∷ refuse 7 (is_too_large e)
    ∷ []

abbrev pub RowIs : List Record → Phase → SignalEvent → ℕ → Type 0
RowIs rs p e k =
    (row_reply rs p e ≡ cond (eqb k 0) (done_row rs p e) (refused_row p k))
    × (row_after rs p e ≡ cond (eqb k 0) (map (record_after p e) rs) rs)

-- the records of a bus: those of its first n positions, and of all that hold a device
abbrev pub records_below : Bus → ℕ → List Record
records_below b zero = []
records_below b (suc n) = records_below b n ++ record_at b n ∷ []

abbrev pub records_of : Bus → List Record
records_of b = records_below b b.count

-- What each signal leaves a well-formed record: well formed, in the phase that the message then has.
use Rattle.std.specs.Prelude.{◌≡◌, refl, Bool, true, false, ◌&&◌, cond, ℕ, ◌/◌, ◌%◌, eqb}
use Rattle.std.proofs.lemmas.Bool.{false≢true}
use Rattle.basics.specs.laws.Logic.{tested, holds, fails}
use Rattle.chip.specs.Kinds.{is_driver}
use Rattle.chip.specs.Control.{control_legal, control_moved}
use Rattle.chip.specs.Promises.{moved_legal}
use Rattle.device.specs.Fields.{with_stage, with_control}
use Rattle.device.specs.Registers.{is_awake}
use Rattle.device.specs.WellFormed.{is_read, record_ok, stage_fits, well_formed}
use Rattle.device.proofs.Promises.{reset_well}
use Rattle.device.proofs.laws.WellFormed.{ok, fits, well, well_formed_ok, zero_within, WellIn}
use Rattle.device.specs.declared.Device.{Device}
use Rattle.device.specs.declared.Phase.{Phase}
use Rattle.device.specs.declared.Phase.TheVariants as P
use Rattle.device.specs.declared.Stage.{Stage}
use Rattle.device.specs.declared.Stage.TheVariants.{Unselected, Control, Data, Talking, ResetCall, ResetFirst, ResetBoth}
use Rattle.protocol.specs.Selection.{after_start, answers, stage_after_address, phase_after_address}
use Rattle.protocol.specs.Write.{after_control, wakes, count_after_data, after_data, is_call_byte, after_byte_at, after_byte}
use Rattle.protocol.specs.Put.{after_put}
use Rattle.protocol.specs.Read.{is_talking, after_talk, after_get, phase_after_get}
use Rattle.protocol.specs.Signals.{takes_put, phase_after_put}
use Rattle.protocol.specs.Stop.{after_commit, took_reset, after_stop}

-- ---- START

pub started_well : (d : Device) → record_ok d ≡ true → well_formed P.Address (after_start d) ≡ true
started_well d h = well P.Address (after_start d) (ok d h) refl

-- ---- a byte that is put

stage_fits_lem : (call even driver called : Bool) → stage_fits (cond even P.Write P.Read) (cond call (cond (even && driver) ResetCall Unselected) (cond called (cond even Control Talking) Unselected)) ≡ true
stage_fits_lem true true true called = refl
stage_fits_lem true true false called = refl
stage_fits_lem true false driver called = refl
stage_fits_lem false true driver true = refl
stage_fits_lem false true driver false = refl
stage_fits_lem false false driver true = refl
stage_fits_lem false false driver false = refl

pub addressed_well : (byte : ℕ) (d : Device) → record_ok d ≡ true → well_formed (phase_after_address byte) (after_put P.Address byte d) ≡ true
unfolding after_put stage_after_address
addressed_well byte d h =
    well (phase_after_address byte) (after_put P.Address byte d) (ok d h)
    (stage_fits_lem (eqb (byte / 2) 3) (eqb (byte % 2) 0) (is_driver d.chip) (answers d (byte / 2)))

control_well : (byte : ℕ) (d : Device) → record_ok d ≡ true → WellIn P.Write (after_control byte d)
unfolding after_control
control_well byte d h =
    elim (tested (control_legal d.chip byte)) [
      | holds e ↦ rw e (well P.Write (with_control (with_stage d Data) byte) (record { legal = e; allowed = (ok d h).allowed; within = (ok d h).within }) refl)
      | fails e ↦ rw e (well P.Write (with_stage d Unselected) (ok d h) refl)
    ]

data_well : (byte : ℕ) (d : Device) → WellIn P.Write d → WellIn P.Write (after_data byte d)
unfolding after_data count_after_data
data_well byte d h =
    let o = ok d (well_formed_ok P.Write d h) in
    well P.Write (after_data byte d) (
    record {
      legal = moved_legal d.chip d.control o.legal;
      allowed = o.allowed;
      within = elim (tested (wakes byte d)) [ holds e ↦ rw e zero_within | fails e ↦ rw e o.within ];
    }
    ) (fits P.Write d h)

call_well : (due byte : ℕ) (d : Device) (s : Stage) → record_ok d ≡ true → stage_fits P.Write s ≡ true → WellIn P.Write (with_stage d (cond (is_call_byte due byte d) s Unselected))
call_well due byte d s h f =
    elim (tested (is_call_byte due byte d)) [
      | holds e ↦ rw e (well P.Write (with_stage d s) (ok d h) f)
      | fails e ↦ rw e (well P.Write (with_stage d Unselected) (ok d h) refl)
    ]

byte_well : (byte : ℕ) (d : Device) (s : Stage) → WellIn P.Write d → WellIn P.Write (after_byte_at s byte d)
byte_well byte d Unselected h = h
byte_well byte d Control h = control_well byte d (well_formed_ok P.Write d h)
byte_well byte d Data h = data_well byte d h
byte_well byte d Talking h = h
byte_well byte d ResetCall h = call_well 165 byte d ResetFirst (well_formed_ok P.Write d h) refl
byte_well byte d ResetFirst h = call_well 90 byte d ResetBoth (well_formed_ok P.Write d h) refl
byte_well byte d ResetBoth h = well P.Write (with_stage d Unselected) (ok d (well_formed_ok P.Write d h)) refl

pub written_well : (byte : ℕ) (d : Device) → well_formed P.Write d ≡ true → well_formed P.Write (after_put P.Write byte d) ≡ true
unfolding after_put after_byte
written_well byte d h = byte_well byte d d.stage h

-- ---- a get

talk_well : (d : Device) → WellIn P.Read d → WellIn P.Read (after_talk d)
unfolding after_talk
talk_well d h =
    let o = ok d (well_formed_ok P.Read d h) in
    elim (tested (is_talking d.stage)) [
      | holds e ↦ rw e (well P.Read (with_control d (control_moved d.chip d.control)) (record { legal = moved_legal d.chip d.control o.legal; allowed = o.allowed; within = o.within }) (fits P.Read d h))
      | fails e ↦ rw e h
    ]

pub gotten_well : (ack : Bool) (d : Device) → well_formed P.Read d ≡ true → well_formed (phase_after_get ack) (after_get ack d) ≡ true
unfolding after_get
gotten_well true d h = talk_well d h
gotten_well false d h = well P.Ended (with_stage (after_talk d) Unselected) (ok (after_talk d) (well_formed_ok P.Read (after_talk d) (talk_well d h))) refl

-- ---- STOP

commit_ok : (d : Device) → record_ok d ≡ true → record_ok (after_commit d) ≡ true
unfolding after_commit record_ok
commit_ok d h =
    elim (tested (is_driver d.chip && is_awake d)) [ holds e ↦ rw e h | fails e ↦ rw e h ]

pub stopped_well : (d : Device) → record_ok d ≡ true → well_formed P.Idle (after_stop d) ≡ true
unfolding after_stop
stopped_well d h =
    elim (tested (is_driver d.chip && took_reset d.stage)) [
      | holds e ↦ rw e (reset_well P.Idle d h)
      | fails e ↦ rw e (well P.Idle (with_stage (after_commit d) Unselected) (ok (after_commit d) (commit_ok d h)) refl)
    ]

-- ---- by phase

pub put_well : (p : Phase) (byte : ℕ) (d : Device) → takes_put p ≡ true → WellIn p d → WellIn (phase_after_put p byte) (after_put p byte d)
put_well P.Address byte d t h = addressed_well byte d (well_formed_ok P.Address d h)
put_well P.Write byte d t h = written_well byte d h
put_well P.Idle byte d t h = absurd (false≢true t)
put_well P.Read byte d t h = absurd (false≢true t)
put_well P.Ended byte d t h = absurd (false≢true t)

pub get_well : (p : Phase) (ack : Bool) (d : Device) → is_read p ≡ true → WellIn p d → WellIn (phase_after_get ack) (after_get ack d)
get_well P.Read ack d t h = gotten_well ack d h
get_well P.Idle ack d t h = absurd (false≢true t)
get_well P.Address ack d t h = absurd (false≢true t)
get_well P.Write ack d t h = absurd (false≢true t)
get_well P.Ended ack d t h = absurd (false≢true t)

-- A device that is added to a bus, and to an empty one; and what stands before its add.
use Rattle.std.specs.Prelude.{Option, Some, None, ◌≡◌, true, false, ℕ, ◌+◌, ◌≤◌, ◌<◌, eqb, length, refl, List, [], ◌∷◌, ◌++◌}
use Rattle.std.proofs.Common.{ap, sym, ◌∙◌, true≢false, le_trans, arith, leb-false, ne_eqb}
use Rattle.std.proofs.lemmas.Bool.{false≢true, not-false}
use Rattle.basics.specs.First.{all}
use Rattle.chip.specs.Kinds.{chip_numbered, is_unknown}
use Rattle.chip.specs.declared.Chip.{Chip}
use Rattle.device.specs.declared.Phase.{Phase}
use Rattle.device.specs.declared.Phase.TheVariants as P
use Rattle.device.specs.Reset.{fresh}
use Rattle.totals.specs.Totals.{record_of, zeros}
use Rattle.protocol.specs.Signals.{is_open}
use Rattle.refusals.specs.Refusals.{Refusal}
use Rattle.refusals.specs.laws.Refusals.{NoneHolds, none_code}
use Rattle.bus.specs.Devices.{bus_ok, has_device, device_at, record_at, with_added, empty_bus}
use Rattle.bus.specs.Add.{added_to}
use Rattle.bus.specs.Place.{place_refusals, change_refusals, question_refusals}
use Rattle.bus.specs.Events.{step_reply, step_refusals, step_done, run_bus}
use Rattle.bus.proofs.Promises.{step_code, step_well, empty_well}
use Rattle.bus.proofs.laws.Records.{added_record}
use Rattle.bus.proofs.laws.Runs.{run_grows}
use Rattle.bus.proofs.laws.Steps.{done, below_count, added_count, added_there}
use Rattle.bus.proofs.laws.WellFormed.{step_places}
use Rattle.bus.specs.declared.Bus.{Bus}
use Rattle.bus.specs.declared.Event.{Event}
use Rattle.bus.specs.declared.Event.TheVariants.{Add, Signal, Change, Ask}
use Rattle.bus.specs.declared.Reply.{Reply}
use Rattle.replay.specs.ByHand.{AllAccepted}
use Rattle.alone.specs.Alone.{only, alone, Present, shortened, is_silent, is_add}

-- the phase in which no message is open
idle : (p : Phase) → is_open p ≡ false → p ≡ P.Idle
idle P.Idle e = refl
idle P.Address e = absurd (true≢false e)
idle P.Write e = absurd (true≢false e)
idle P.Read e = absurd (true≢false e)
idle P.Ended e = absurd (true≢false e)

first_added : (chip : Chip) (address : ℕ) → with_added empty_bus (fresh chip address) ≡ only P.Idle (record_of (fresh chip address) zeros zeros)
unfolding only
first_added chip address = refl

found_alone : (b : Bus) (found : Option Chip) (address : ℕ) → is_unknown found ≡ false → is_open b.phase ≡ false → b.count < 8 → b.count < length b.devices → added_to empty_bus found address ≡ alone b.count (added_to b found address)
found_alone b None address u o h k = absurd (true≢false u)
found_alone b (Some chip) address u o h k =
    first_added chip address
    ∙ ap (λ (p : Phase). only p (record_of (fresh chip address) zeros zeros)) (sym (idle b.phase o))
    ∙ ap (only b.phase) (sym (added_record b (fresh chip address) h k))

module _ (b : Bus) (chip addr : ℕ) (z : (step_reply b (Add chip addr)).code ≡ 0) where
  -- an add that is accepted on any bus is accepted on an empty one
  pub add_accepted : (step_reply empty_bus (Add chip addr)).code ≡ 0
  unfolding step_refusals
  add_accepted =
      let n = (done b (Add chip addr) z).0 in
      step_code empty_bus (Add chip addr) ∙ none_code (step_refusals empty_bus (Add chip addr)) (n.0, (n.1.0, (refl, (rw empty_well refl, (refl, tt)))))

  -- and the device is alone there
  pub add_alone : length b.devices ≡ 8 → (step_reply empty_bus (Add chip addr)).bus ≡ alone b.count (step_reply b (Add chip addr)).bus
  unfolding step_refusals step_done
  add_alone places =
      let d = done b (Add chip addr) z in
      let n = d.0 in
      let few = leb-false 8 b.count n.1.1.0 in
      ap (λ (r : Reply). r.bus) (done empty_bus (Add chip addr) add_accepted).1
      ∙ found_alone b (chip_numbered chip) addr n.0 n.1.1.1.1.0 few (omega (arith, places, few))
      ∙ ap (λ (r : Reply). alone b.count r.bus) (sym d.1)

  pub add_present : bus_ok b ≡ true → length b.devices ≡ 8 → Present b.count (step_reply b (Add chip addr)).bus
  add_present h places = (step_well b (Add chip addr) h, (added_there b chip addr z, step_places b (Add chip addr) ∙ places))

-- of events that are no signals, all accepted, nothing is left for a device that is not there yet
module _ (i : ℕ) where
  absent : (b : Bus) (dev : ℕ) (own : List Refusal) → NoneHolds (place_refusals b dev ++ own) → b.count ≤ i → eqb dev i ≡ false
  absent b dev own n h = ne_eqb dev i (λ e. omega (arith, below_count b dev (not-false (has_device b dev) n.0)))

  pub early_dropped : (b : Bus) (l : List Event) → all is_silent l ≡ true → AllAccepted b l → (run_bus b l).count ≤ i → shortened i l ≡ []
  unfolding shortened step_refusals
  early_dropped b [] o a h = refl
  early_dropped b (Add chip addr ∷ l) o a h = early_dropped (step_reply b (Add chip addr)).bus l o a.1 h
  early_dropped b (Signal s ∷ l) o a h = absurd (false≢true o)
  early_dropped b (Change dev c ∷ l) o a h =
      rw (absent b dev (change_refusals (record_at b dev) c) (done b (Change dev c) a.0).0 (le_trans (run_grows b (Change dev c ∷ l)) h)) (early_dropped (step_reply b (Change dev c)).bus l o a.1 h)
  early_dropped b (Ask dev q ∷ l) o a h =
      rw (absent b dev (question_refusals (device_at b dev) q) (done b (Ask dev q) a.0).0 (le_trans (run_grows b (Ask dev q ∷ l)) h)) (early_dropped (step_reply b (Ask dev q)).bus l o a.1 h)

-- adds alone: none is a signal, and there are as many devices
pub adds_silent : (l : List Event) → all is_add l ≡ true → all is_silent l ≡ true
adds_silent [] o = refl
adds_silent (Add chip addr ∷ l) o = adds_silent l o
adds_silent (Signal s ∷ l) o = absurd (false≢true o)
adds_silent (Change dev c ∷ l) o = absurd (false≢true o)
adds_silent (Ask dev q ∷ l) o = absurd (false≢true o)

pub adds_count : (b : Bus) (l : List Event) → all is_add l ≡ true → AllAccepted b l → (run_bus b l).count ≡ b.count + length l
adds_count b [] o a = omega arith
adds_count b (Add chip addr ∷ l) o a = omega (arith, adds_count (step_reply b (Add chip addr)).bus l o a.1, added_count b chip addr a.0)
adds_count b (Signal s ∷ l) o a = absurd (false≢true o)
adds_count b (Change dev c ∷ l) o a = absurd (false≢true o)
adds_count b (Ask dev q ∷ l) o a = absurd (false≢true o)

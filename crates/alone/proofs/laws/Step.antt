-- One event on a bus and on the device alone: what concerns the device has the same refusals and does the same to it; anything else leaves it.
use Rattle.std.specs.Prelude.{Option, Some, None, ◌≡◌, true, false, List, ◌++◌, ℕ, ◌<◌, length, refl}
use Rattle.std.proofs.Common.{ap, subst, sym, ◌∙◌, true≢false, arith, eqb-true}
use Rattle.std.proofs.lemmas.Bool.{false≢true, eqb-false, not-false}
use Rattle.basics.specs.laws.First.{map_there}
use Rattle.basics.specs.laws.Parts.{part_long}
use Rattle.chip.specs.declared.Chip.{Chip}
use Rattle.chip.specs.Kinds.{chip_numbered}
use Rattle.device.specs.declared.Device.{Device}
use Rattle.totals.specs.declared.Record.{Record}
use Rattle.protocol.specs.Signals.{phase_after_signal, after_signal}
use Rattle.refusals.specs.Refusals.{Refusal, code_of}
use Rattle.refusals.specs.laws.Refusals.{NoneHolds}
use Rattle.bus.specs.Devices.{bus_ok, has_device, device_at, record_at, with_record, bus_after}
use Rattle.bus.specs.Add.{added_to}
use Rattle.bus.specs.Signals.{signal_of}
use Rattle.bus.specs.Place.{place_refusals, change_refusals, with_chip, after_change, question_refusals}
use Rattle.bus.specs.Events.{step_reply, step_refusals, step_done}
use Rattle.bus.proofs.Promises.{step_code}
use Rattle.bus.proofs.laws.Records.{record_here, record_other, added_at}
use Rattle.bus.proofs.laws.Steps.{done, stays, below_count, below_eight}
use Rattle.bus.proofs.laws.WellFormed.{device_well, at_fits, change_kept}
use Rattle.bus.specs.declared.Bus.{Bus}
use Rattle.bus.specs.declared.Change.{Change}
use Rattle.bus.specs.declared.Event.{Event}
use Rattle.bus.specs.declared.Event.TheVariants as E
use Rattle.bus.specs.declared.Reply.{Reply}
use Rattle.bus.specs.declared.SignalEvent.{SignalEvent}
use Rattle.replay.proofs.laws.Timed.{step_by}
use Rattle.alone.specs.Alone.{only, alone, concerns, renamed}
use Rattle.alone.proofs.laws.Only.{only_phase, only_there, only_after, only_with, only_record, only_well}

module _ (b : Bus) (i : ℕ) (h : bus_ok b ≡ true) (there : has_device b i ≡ true) where
  pub alone_record : record_at (alone i b) 0 ≡ record_at b i
  alone_record = only_record _ (record_at b i) (part_long 16 i b.lit) (part_long 16 i b.unlit)

  pub alone_well : bus_ok (alone i b) ≡ true
  alone_well =
      only_well _ (record_at b i) (part_long 16 i b.lit) (part_long 16 i b.unlit) (device_well b i h there) (at_fits b i h there)

  -- ---- what does not concern it

  added_left : (found : Option Chip) (address : ℕ) → alone i (added_to b found address) ≡ alone i b
  added_left None address = refl
  added_left (Some chip) address = ap (only b.phase) (added_at b _ i (below_eight b i there) (λ e. omega (arith, below_count b i there)))

  other_left : (dev : ℕ) (c : Change) → (dev ≡ i → ⊥) → NoneHolds (step_refusals b (E.Change dev c)) → alone i (with_record b dev (after_change (record_at b dev) c)) ≡ alone i b
  unfolding step_refusals
  other_left dev c n m =
      let kept = change_kept b dev h (not-false (has_device b dev) m.0) c m.1.1 in
      ap (only b.phase) (record_other b dev (after_change (record_at b dev) c) kept.lit_long kept.unlit_long i (below_eight b i there) (λ e. n (sym e)))

  done_left : (e : Event) → concerns i e ≡ false → NoneHolds (step_refusals b e) → alone i (step_done b e).bus ≡ alone i b
  unfolding step_done
  done_left (E.Add chip addr) o m = added_left (chip_numbered chip) addr
  done_left (E.Signal s) o m = absurd (true≢false o)
  done_left (E.Change dev c) o m = other_left dev c (eqb-false dev i o) m
  done_left (E.Ask dev q) o m = refl

  pub step_left : (e : Event) → concerns i e ≡ false → alone i (step_reply b e).bus ≡ alone i b
  step_left e o = step_by b e (λ r. alone i r.bus ≡ alone i b) (λ z n. done_left e o n) (λ n. refl)

  -- ---- what concerns it

  -- what is asked of a position, and of the record there
  named_alone : (own : Record → List Refusal) → place_refusals (alone i b) 0 ++ own (record_at (alone i b) 0) ≡ place_refusals b i ++ own (record_at b i)
  named_alone own = rw (alone_record, alone_well, h, there, only_there b.phase (record_at b i)) refl

  refusals_alone : (e : Event) → concerns i e ≡ true → step_refusals (alone i b) (renamed e) ≡ step_refusals b e
  unfolding step_refusals
  refusals_alone (E.Add chip addr) o = absurd (false≢true o)
  refusals_alone (E.Signal s) o = rw (alone_well, h, only_phase b.phase (record_at b i))
  refusals_alone (E.Change dev c) o =
      named_alone (λ r. change_refusals r c)
      ∙ ap (λ (j : ℕ). place_refusals b j ++ change_refusals (record_at b j) c) (sym (eqb-true dev i o))
  refusals_alone (E.Ask dev q) o =
      named_alone (λ r. question_refusals r.device q)
      ∙ ap (λ (j : ℕ). place_refusals b j ++ question_refusals (device_at b j) q) (sym (eqb-true dev i o))

  pub code_alone : (e : Event) → concerns i e ≡ true → (step_reply (alone i b) (renamed e)).code ≡ (step_reply b e).code
  code_alone e o = step_code (alone i b) (renamed e) ∙ ap code_of (refusals_alone e o) ∙ sym (step_code b e)

  module _ (place : i < length b.devices) where
    -- a signal is one function at each device
    signal_alone : (s : SignalEvent) → bus_after (signal_of s) (alone i b) ≡ alone i (bus_after (signal_of s) b)
    signal_alone s =
        only_after b.phase (record_at b i) (signal_of s)
        ∙ ap (λ (d : Device). only (phase_after_signal b.phase (signal_of s)) (with_chip (record_at b i) d)) (sym (map_there (after_signal b.phase (signal_of s)) _ b.count b.devices i (below_count b i there) place))

    -- a change replaces the record at the position
    change_alone : (c : Change) → NoneHolds (change_refusals (record_at b i) c) → with_record (alone i b) 0 (after_change (record_at (alone i b) 0) c) ≡ alone i (with_record b i (after_change (record_at b i) c))
    change_alone c m =
        let kept = change_kept b i h there c m in
        ap (λ (r : Record). with_record (alone i b) 0 (after_change r c)) alone_record
        ∙ only_with b.phase (record_at b i) (after_change (record_at b i) c)
        ∙ ap (only b.phase) (sym (record_here b i (after_change (record_at b i) c) kept.lit_long kept.unlit_long (below_eight b i there) place))

    done_alone : (e : Event) → concerns i e ≡ true → NoneHolds (step_refusals b e) → (step_done (alone i b) (renamed e)).bus ≡ alone i (step_done b e).bus
    unfolding step_done step_refusals
    done_alone (E.Add chip addr) o m = absurd (false≢true o)
    done_alone (E.Signal s) o m = signal_alone s
    done_alone (E.Change dev c) o m =
        subst (λ (j : ℕ). NoneHolds (change_refusals (record_at b j) c) → with_record (alone i b) 0 (after_change (record_at (alone i b) 0) c) ≡ alone i (with_record b j (after_change (record_at b j) c)))
        (sym (eqb-true dev i o)) (change_alone c) m.1.1
    done_alone (E.Ask dev q) o m = refl

    pub step_alone : (e : Event) → concerns i e ≡ true → (step_reply (alone i b) (renamed e)).bus ≡ alone i (step_reply b e).bus
    step_alone e o =
        step_by b e (λ r. (step_reply (alone i b) (renamed e)).bus ≡ alone i r.bus)
        (λ z n. ap (λ (r : Reply). r.bus) (done (alone i b) (renamed e) (code_alone e o ∙ z)).1 ∙ done_alone e o n)
        (λ n. stays (alone i b) (renamed e) (λ z. n (sym (code_alone e o) ∙ z)))
